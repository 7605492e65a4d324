-- By how much the counts of a group can grow.
use Prim.Native.Nat.{ℕ, suc, ◌+◌, ◌*◌, ◌≤◌}
use mathlib.Core.List.{List, [], ◌∷◌}
use native.Mathlib.Omega.{arith}
use lib.ListN.{length}
use Rattle.stats.specs.declared.CorrectionStats.{CorrectionStats}
use Rattle.stats.specs.Counts.{zeroed, plus}
use Rattle.stats.specs.Room.{AtMost}
use Rattle.stats.proofs.CountLaws.{most_less, most_plus}
use Rattle.strategy.specs.declared.Strategies.{Strategies}
use Rattle.group_frames.specs.Frame.{record_of}
use Rattle.group_mates.specs.Register.{pairs_of}
use Rattle.group_mates.proofs.OnceLaws.{pairs_half}
use Rattle.group_verdicts.specs.Judged.{pair_at}
use Rattle.group_applying.specs.Applied.{grown}
use Rattle.group_applying.proofs.CallLaws.{call_most}

-- each pair lets a count grow by at most 131,072
pub grown_most : (w : Strategies) (s : List ℕ) (l : List (ℕ × ℕ)) (g : CorrectionStats) (m : ℕ) → AtMost m g → AtMost (m + 131072 * length l) (grown w s l g)
unfolding grown
grown_most w s [] g m h = most_less m (m + 131072 * 0) g (omega arith) h
grown_most w s (e ∷ l) g m h =
    let g' = (pair_at w s e.0 e.1).after.stats in
    most_less (m + 131072 + 131072 * length l) (m + 131072 * suc (length l)) (grown w s l (plus g g')) (omega arith)
    (grown_most w s l (plus g g') (m + 131072) (most_plus m 131072 g g' h (call_most w (record_of s e.0) (record_of s e.1))))

-- a group has at most 128 pairs
pub all_most : (w : Strategies) (s : List ℕ) (n : ℕ) → n ≤ 256 → AtMost 16777216 (grown w s (pairs_of s n) zeroed)
all_most w s n few =
    most_less (0 + 131072 * length (pairs_of s n)) 16777216 (grown w s (pairs_of s n) zeroed) (omega (arith, pairs_half s n))
    (grown_most w s (pairs_of s n) zeroed 0 (record { overlapping = omega arith; agreeing = omega arith; disagreeing = omega arith; corrected = omega arith }))
