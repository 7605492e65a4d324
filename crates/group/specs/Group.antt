-- The whole group call: its answer, every byte and the counts.
use Rattle.refusal.specs.declared.Refusal.{Refusal}
use Rattle.std.specs.Prelude.{ℕ, cond, List, [], ◌∷◌, length, Result, Ok, Err}
use Rattle.refusal.specs.declared.Refusal.TheVariants.{Count}
use Rattle.refusal.specs.Table.{number_of, place_of, operation_of}
use Rattle.stats.specs.declared.CorrectionStats.{CorrectionStats}
use Rattle.stats.specs.Counts.{full}
use Rattle.strategy.specs.declared.Strategies.{Strategies}
use Rattle.strategy.specs.Number.{numbered_of}
use Rattle.group_frames.specs.Frame.{frames_of}
use Rattle.group_mates.specs.Register.{pairs_of}
use Rattle.group_verdicts.specs.Judged.{verdict_at, judge_by}
use Rattle.group_applying.specs.declared.Applied.{Applied}
use Rattle.group_applying.specs.Applied.{written, grown, overlaps_in}
use Rattle.group.specs.declared.GroupAnswer.{GroupAnswer}
use Rattle.group.specs.declared.GroupAnswer.TheVariants.{Done, Refused}

-- the answer in the paper's numbers: 0, then the numbers of records, pairs and pairs overlapping; or a refusal's number, its place, and the index of the operation at fault
abbrev pub group_numbers : GroupAnswer → List ℕ
group_numbers (Done n p o) = 0 ∷ n ∷ p ∷ o ∷ []
group_numbers (Refused r) = number_of r ∷ place_of r ∷ operation_of r ∷ []

-- the answer, and the group and the counts after the call
pub record Ended : Type 0 where
  pub answer : GroupAnswer
  pub bytes : List ℕ
  pub stats : CorrectionStats

abbrev pub ended : GroupAnswer → List ℕ → CorrectionStats → Ended
ended a s g = record { answer = a; bytes = s; stats = g }

-- what a call gives that corrected so many records with these numbers of pairs; or that is refused
abbrev pub ended_by : Result (ℕ × Applied) Refusal → List ℕ → CorrectionStats → Ended
ended_by (Ok d) s g = ended (Done d.0 d.1.pairs d.1.overlapping) s d.1.stats
ended_by (Err r) s g = ended (Refused r) s g

-- a refusal leaves the group s and the counts g as they came; else each pair holds what the pair call gives
abbrev pub on_pairs : Strategies → List ℕ → CorrectionStats → ℕ → Result (Unit {0}) Refusal → Ended
on_pairs w s g n (Err r) = ended (Refused r) s g
on_pairs w s g n (Ok done) = ended (Done n (length (pairs_of s n)) (overlaps_in w s (pairs_of s n))) (written w s (pairs_of s n) s) (grown w s (pairs_of s n) g)

-- the frames, then the pairs in order of the first's index
abbrev pub on_frames : Strategies → List ℕ → CorrectionStats → Result ℕ Refusal → Ended
on_frames w s g (Err r) = ended (Refused r) s g
on_frames w s g (Ok n) = on_pairs w s g n (judge_by (verdict_at w s) (pairs_of s n))

unfoldable pub framed_of : Strategies → List ℕ → CorrectionStats → Ended
framed_of w s g = on_frames w s g (frames_of s)

-- 10, then 22, then 9, then the rest
abbrev pub on_numbered : List ℕ → CorrectionStats → Result Strategies Refusal → Ended
on_numbered s g (Err r) = ended (Refused r) s g
on_numbered s g (Ok w) = cond (full g) (ended (Refused Count) s g) (framed_of w s g)

unfoldable pub group_of : ℕ → ℕ → ℕ → List ℕ → CorrectionStats → Ended
group_of agreement disagreement cap s g = on_numbered s g (numbered_of agreement disagreement cap)
