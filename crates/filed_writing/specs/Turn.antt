-- The pair that a record is in, and the pair that stands treated in the rooms.
use Rattle.std.specs.Prelude.{ℕ, suc, ◌+◌, ◌-◌, ◌<◌, ◌≤◌, ◌≡◌, ◌⊎◌, List, length, take, drop, Ok, Option, Some, None}
use Rattle.stats.specs.Counts.{plus}
use Rattle.stats.specs.Room.{Adds}
use Rattle.strategy.specs.declared.Strategies.{Strategies}
use Rattle.pair_judgement.specs.Ready.{Cleared}
use Rattle.group_frames.specs.Part.{part, splice}
use Rattle.group_frames.specs.Frame.{begin_of, end_of, record_of}
use Rattle.group_frames.specs.declared.Frames.{Frames}
use Rattle.group_mates.specs.Register.{mates_of, pairs_of}
use Rattle.group_verdicts.specs.Judged.{judge_by}
use Rattle.group_verdicts.specs.Indexed.{indexed_at}
use Rattle.group_applying.specs.declared.Applied.{Applied}
use Rattle.filed_writing.specs.declared.Mates.{Mates}
use Rattle.filed_writing.specs.declared.Held.{Held}
use Rattle.filed_writing.specs.declared.Rooms.{Rooms}
use Rattle.filed_writing.specs.Short.{Short}
use Rattle.filed_writing.specs.Written.{Copied, corrected, Front, applied, added_by}

-- every pair of the n records of s was judged, and none is refused
abbrev pub AllPassed : List ℕ → ℕ → Type 0
AllPassed s n = judge_by (indexed_at s) (pairs_of s n) ≡ Ok tt

-- m is a pair of the n records of s, and it passed
pub record Paired (s : List ℕ) (n : ℕ) (m : Mates) : Type 0 where
  pub first : m.first < n
  pub last : m.last < n
  pub mates : mates_of s n m.first ≡ suc m.last
  pub cleared : Cleared (record_of s m.first) (record_of s m.last)

-- p is the pair that record k, one of the n of s, is in
pub record Turned (s : List ℕ) (n k : ℕ) (p : Option Mates) : Type 0 where
  pub below : k < n
  pub pair : (m : Mates) → p ≡ Some m → Paired s n m
  pub member : (m : Mates) → p ≡ Some m → (m.first ≡ k) ⊎ (m.last ≡ k)
  pub lead : (j : ℕ) → mates_of s n k ≡ suc j → (m : Mates) × (p ≡ Some m) × (m.first ≡ k)
  pub alone : p ≡ None → (i : ℕ) → i < n → mates_of s n i ≡ suc k → ⊥

-- each room takes any one of the records
abbrev pub Roomy : Frames → Rooms → Type 0
Roomy f r = Short f.begins.now f.count (length r.left.now) × Short f.begins.now f.count (length r.right.now)

-- the rooms are as long as before
abbrev pub SameSize : Rooms → Rooms → Type 0
SameSize r r' = (length r'.left.now ≡ length r.left.now) × (length r'.right.now ≡ length r.right.now)

-- the rooms begin with what the two records of the pair become whose first has the index f, and r is what it adds
pub record Stands (w : Strategies) (s : List ℕ) (n f : ℕ) (left right : List ℕ) (r : Applied) : Type 0 where
  pub pair : (j : ℕ) → mates_of s n f ≡ suc j → Copied w (record_of s f) (record_of s j) left right r

-- the pair that the rooms are said to hold, if there is one, stands there
abbrev pub HeldIn : Strategies → List ℕ → ℕ → List ℕ → List ℕ → Option Held → Type 0
HeldIn w s n left right None = Unit {0}
HeldIn w s n left right (Some h) = Stands w s n h.first left right h.added

abbrev pub Holds : Strategies → List ℕ → ℕ → Rooms → Type 0
Holds w s n r = HeldIn w s n r.left.now r.right.now r.held

-- out with the frame of s at b put there, up to e: its size, and then the front of x
abbrev pub framed : List ℕ → ℕ → ℕ → List ℕ → List ℕ → List ℕ
framed s b e x out = splice (splice out b (b + 4) (part s b (b + 4))) (b + 4) e (take (e - (b + 4)) x)

-- the output begins with the corrected group up to record k, and has bytes for it
abbrev pub Begun : Strategies → List ℕ → ℕ → ℕ → List ℕ → Type 0
Begun w s n k out = Front (corrected w s n) out (begin_of s k) × (end_of s k ≤ length out)

-- the output begins with the corrected group to the end of record k, and is as it came behind it; r is what record k adds
pub record Wrote (w : Strategies) (s : List ℕ) (n k : ℕ) (out out' : List ℕ) (r : Applied) : Type 0 where
  pub front : Front (corrected w s n) out' (end_of s k)
  pub behind : drop (end_of s k) out' ≡ drop (end_of s k) out
  pub adds : r ≡ added_by w s k (mates_of s n k)

-- the numbers of two lots of pairs, one behind the other
abbrev pub together : Applied → Applied → Applied
together a b = applied (a.pairs + b.pairs) (a.overlapping + b.overlapping) (plus a.stats b.stats)

-- they fit
pub record Fitting (a b : Applied) : Type 0 where
  pub pairs : a.pairs + b.pairs < 18446744073709551616
  pub overlapping : a.overlapping + b.overlapping < 18446744073709551616
  pub stats : Adds a.stats b.stats
