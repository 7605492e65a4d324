-- What the room behind the output does to a call: nothing, where there is enough of it. Assumes nothing.
use Rattle.std.specs.Prelude.{Result, Ok, Err}
use Prim.Native.Nat.{ℕ, ◌+◌, ◌≤◌}
use mathlib.Core.Path.{◌≡◌, refl, ◌∙◌, ap}
use mathlib.Core.Bool.{Bool, true, false, cond}
use mathlib.Core.List.{List, [], ◌++◌, append-nil}
use native.Mathlib.Omega.{arith}
use borrow.Author.Tests.{eqb-true, le-ltb}
use lib.Dec.{eqb}
use lib.ListN.{length, drop}
use lib.Seq.{drop-length}
use Rattle.refusal.specs.declared.Refusal.{Refusal}
use Rattle.refusal.specs.declared.Refusal.TheVariants.{Count, TrailerMissing, TrailerField}
use Rattle.stats.specs.declared.CorrectionStats.{CorrectionStats}
use Rattle.stats.specs.Counts.{plus, full}
use Rattle.group_frames.specs.Frame.{begin_of}
use Rattle.group.specs.declared.GroupAnswer.{GroupAnswer}
use Rattle.group.specs.declared.GroupAnswer.TheVariants as Groups
use Rattle.group.specs.Group as Group
use Rattle.filed_ending.specs.Ending.{ending_of}
use Rattle.filed_trailer.specs.Trailer.{trailer_at, wrong}
use Rattle.filed.specs.declared.FiledAnswer.TheVariants.{Corrected, AlreadyDone, Refused}
use Rattle.filed.specs.Filed.{Ended, ended, corrected_with, on_group, group_in, on_raw, on_trailer, on_ending, filed_of}
use Rattle.filed.proofs.SafeLaws.{corrected_length}

-- x is the outcome with the output out, y that with an output as long as the input
pub data Outcome (s out : List ℕ) (g : CorrectionStats) (x y : Ended) : Type 0 where
  wrote : (n q o : ℕ) (h : CorrectionStats) (u : List ℕ) → length u ≡ length s
      → x ≡ ended (Corrected n q o h) (u ++ drop (length s) out) (plus g h) → y ≡ ended (Corrected n q o h) u (plus g h) → Outcome s out g x y
  known : (n : ℕ) (h : CorrectionStats) → x ≡ ended (AlreadyDone n h) out g → y ≡ ended (AlreadyDone n h) s g → Outcome s out g x y
  refused : (r : Refusal) → x ≡ ended (Refused r) out g → y ≡ ended (Refused r) s g → Outcome s out g x y

module _ (s out : List ℕ) (g : CorrectionStats) (long : length s ≤ length out) where
  module _ (m : ℕ) (ends : ending_of s ≡ Ok m) (size : length s ≡ begin_of s m + 50) where
    abbrev p : ℕ
    p = begin_of s m

    abbrev E : Group.Ended
    E = group_in s p (trailer_at s p).strategies

    on_group_lem : (a : GroupAnswer) → E.answer ≡ a → Outcome s out g (on_group s out g p a E) (on_group s s g p a E)
    on_group_lem (Groups.Refused r) e = refused r refl refl
    on_group_lem (Groups.Done n q o) e =
        let u = corrected_with s p E.bytes E.stats in
        let l : drop (length s) s ≡ [] = drop-length s in
        wrote n q o E.stats u
        (corrected_length s m ends size n q o E.bytes E.stats (trailer_at s p).strategies (ap (λ (x : GroupAnswer). Group.ended x E.bytes E.stats) e))
        (rw (le-ltb (length out) (length s) long) refl)
        (rw (le-ltb (length s) (length s) (omega arith)) (ap (λ (x : List ℕ). ended (Corrected n q o E.stats) x (plus g E.stats)) (ap (λ (x : List ℕ). u ++ x) l ∙ append-nil u)))

    on_state : (t : Bool)
        → Outcome s out g (cond t (ended (AlreadyDone m (trailer_at s p).growth) out g) (on_raw s out g p (trailer_at s p).strategies)) (cond t (ended (AlreadyDone m (trailer_at s p).growth) s g) (on_raw s s g p (trailer_at s p).strategies))
    on_state true = known m (trailer_at s p).growth refl refl
    on_state false = on_group_lem E.answer refl

    on_trailer_lem : (t : Bool)
        → Outcome s out g
        (cond t (ended (Refused TrailerField) out g) (cond (eqb (trailer_at s p).state 1) (ended (AlreadyDone m (trailer_at s p).growth) out g) (on_raw s out g p (trailer_at s p).strategies)))
        (cond t (ended (Refused TrailerField) s g) (cond (eqb (trailer_at s p).state 1) (ended (AlreadyDone m (trailer_at s p).growth) s g) (on_raw s s g p (trailer_at s p).strategies)))
    on_trailer_lem true = refused TrailerField refl refl
    on_trailer_lem false = on_state (eqb (trailer_at s p).state 1)

  on_size : (m : ℕ) → ending_of s ≡ Ok m → (t : Bool) → eqb (length s) (begin_of s m + 50) ≡ t
      → Outcome s out g (cond t (on_trailer s out g m (begin_of s m) (trailer_at s (begin_of s m))) (ended (Refused TrailerMissing) out g)) (cond t (on_trailer s s g m (begin_of s m) (trailer_at s (begin_of s m))) (ended (Refused TrailerMissing) s g))
  on_size m e true f = on_trailer_lem m e (eqb-true (length s) (begin_of s m + 50) f) (wrong (trailer_at s (begin_of s m)) m (begin_of s m))
  on_size m e false f = refused TrailerMissing refl refl

  on_ending_lem : (x : Result ℕ Refusal) → ending_of s ≡ x → Outcome s out g (on_ending s out g x) (on_ending s s g x)
  on_ending_lem (Err r) e = refused r refl refl
  on_ending_lem (Ok m) e = on_size m e (eqb (length s) (begin_of s m + 50)) refl

  on_counts : (t : Bool) → Outcome s out g (cond t (ended (Refused Count) out g) (on_ending s out g (ending_of s))) (cond t (ended (Refused Count) s g) (on_ending s s g (ending_of s)))
  on_counts true = refused Count refl refl
  on_counts false = on_ending_lem (ending_of s) refl

  pub outcome : Outcome s out g (filed_of s out g) (filed_of s s g)
  unfolding filed_of
  outcome = on_counts (full g)
