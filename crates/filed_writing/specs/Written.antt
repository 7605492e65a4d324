-- What stands in the other buffer when a corrected group is written there front to back.
use Rattle.std.specs.Prelude.{ℕ, zero, suc, ◌≡◌, List, length, take, drop}
use Rattle.stats.specs.declared.CorrectionStats.{CorrectionStats}
use Rattle.stats.specs.Counts.{zeroed}
use Rattle.strategy.specs.declared.Strategies.{Strategies}
use Rattle.positions.specs.Step.{state}
use Rattle.pair.specs.Pair.{Outcome, records_of}
use Rattle.group_frames.specs.Frame.{begin_of}
use Rattle.group_mates.specs.Register.{pairs_of}
use Rattle.group_verdicts.specs.Judged.{pair_at}
use Rattle.group_applying.specs.declared.Applied.{Applied}
use Rattle.group_applying.specs.Applied.{written, grown, overlap_count, overlaps_in}

-- so many pairs, of which so many overlap, and their counts
abbrev pub applied : ℕ → ℕ → CorrectionStats → Applied
applied p o g = record { pairs = p; overlapping = o; stats = g }

-- what a pair with this outcome adds
abbrev pub added : Outcome → Applied
added o = applied 1 (overlap_count o.answer) o.after.stats

-- a and b become a' and b' by the pair call with counts from zero, and r is what it adds
pub record Treats (w : Strategies) (a b a' b' : List ℕ) (r : Applied) : Type 0 where
  pub first : a' ≡ (records_of w (state a b zeroed) 1 2).after.first
  pub second : b' ≡ (records_of w (state a b zeroed) 1 2).after.second
  pub adds : r ≡ added (records_of w (state a b zeroed) 1 2)

-- the same with the rooms in the place of the records: they begin with what a and b become
pub record Copied (w : Strategies) (a b left right : List ℕ) (r : Applied) : Type 0 where
  pub first : take (length a) left ≡ (records_of w (state a b zeroed) 1 2).after.first
  pub second : take (length b) right ≡ (records_of w (state a b zeroed) 1 2).after.second
  pub adds : r ≡ added (records_of w (state a b zeroed) 1 2)

-- the group s with every pair of its n records corrected
abbrev pub corrected : Strategies → List ℕ → ℕ → List ℕ
corrected w s n = written w s (pairs_of s n) s

-- out begins with as many bytes of u
abbrev pub Front : List ℕ → List ℕ → ℕ → Type 0
Front u out at = take at out ≡ take at u

-- what record k adds, by its mate: a pair counts where its first stands
abbrev pub added_by : Strategies → List ℕ → ℕ → ℕ → Applied
added_by w s k zero = applied 0 0 zeroed
added_by w s k (suc j) = added (pair_at w s k j)

-- out' is out with the corrected group at its front, and r the numbers of its pairs
pub record WrittenTo (w : Strategies) (s : List ℕ) (n : ℕ) (out out' : List ℕ) (r : Applied) : Type 0 where
  pub front : Front (corrected w s n) out' (begin_of s n)
  pub behind : drop (begin_of s n) out' ≡ drop (begin_of s n) out
  pub pairs : r.pairs ≡ length (pairs_of s n)
  pub overlapping : r.overlapping ≡ overlaps_in w s (pairs_of s n)
  pub stats : r.stats ≡ grown w s (pairs_of s n) zeroed
