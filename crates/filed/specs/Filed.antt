-- The whole call on a filed group: its answer, every byte of the output and the counts.
use Rattle.refusal.specs.declared.Refusal.{Refusal}
use Rattle.std.specs.Prelude.{ℕ, ◌+◌, ◌/◌, ◌%◌, cond, List, ◌++◌, eqb, ltb, length, take, drop, Result, Ok, Err}
use Rattle.refusal.specs.declared.Refusal.TheVariants.{Count, OutputShort, TrailerMissing, TrailerField}
use Rattle.stats.specs.declared.CorrectionStats.{CorrectionStats}
use Rattle.stats.specs.Counts.{zeroed, plus, full}
use Rattle.group_frames.specs.Frame.{begin_of}
use Rattle.group.specs.declared.GroupAnswer.{GroupAnswer}
use Rattle.group.specs.declared.GroupAnswer.TheVariants as Groups
use Rattle.group.specs.Group as Group
use Rattle.filed_ending.specs.Ending.{ending_of}
use Rattle.filed_trailer.specs.declared.Trailer.{Trailer}
use Rattle.filed_trailer.specs.Trailer.{trailer_at, wrong, stamped}
use Rattle.filed.specs.declared.FiledAnswer.{FiledAnswer}
use Rattle.filed.specs.declared.FiledAnswer.TheVariants.{Corrected, AlreadyDone, Refused}

-- the answer, and the output and the counts after the call
pub record Ended : Type 0 where
  pub answer : FiledAnswer
  pub bytes : List ℕ
  pub stats : CorrectionStats

abbrev pub ended : FiledAnswer → List ℕ → CorrectionStats → Ended
ended a out g = record { answer = a; bytes = out; stats = g }

-- the counts g after a call with this answer
abbrev pub counted : FiledAnswer → CorrectionStats → CorrectionStats
counted (Corrected n q o h) g = plus g h
counted (AlreadyDone n h) g = g
counted (Refused r) g = g

-- what a call gives with this answer; or that is refused
abbrev pub ended_by : Result FiledAnswer Refusal → List ℕ → CorrectionStats → Ended
ended_by (Ok a) out g = ended a out (counted a g)
ended_by (Err r) out g = ended (Refused r) out g

-- the filed group s with its first p bytes corrected to u, and the growth h in its trailer
abbrev pub corrected_with : List ℕ → ℕ → List ℕ → CorrectionStats → List ℕ
corrected_with s p u h = u ++ stamped (drop p s) h

-- 19, after all else; then the corrected group is written over the front of the output, and the counts grow
abbrev pub on_group : List ℕ → List ℕ → CorrectionStats → ℕ → GroupAnswer → Group.Ended → Ended
on_group s out g p (Groups.Refused r) e = ended (Refused r) out g
on_group s out g p (Groups.Done n q o) e =
    cond (ltb (length out) (length s)) (ended (Refused OutputShort) out g)
    (ended (Corrected n q o e.stats) (corrected_with s p e.bytes e.stats ++ drop (length s) out) (plus g e.stats))

-- the group call on the first p bytes, with the cap 93 and its counts begun at 0; b is 3 times the agreement strategy plus the disagreement one
abbrev pub group_in : List ℕ → ℕ → ℕ → Group.Ended
group_in s p b = Group.group_of (b / 3) (b % 3) 93 (take p s) zeroed

abbrev pub on_raw : List ℕ → List ℕ → CorrectionStats → ℕ → ℕ → Ended
on_raw s out g p b = on_group s out g p (group_in s p b).answer (group_in s p b)

-- 21; then a corrected group is known for what it is, and a raw one is corrected
abbrev pub on_trailer : List ℕ → List ℕ → CorrectionStats → ℕ → ℕ → Trailer → Ended
on_trailer s out g n p t =
    cond (wrong t n p) (ended (Refused TrailerField) out g)
    (cond (eqb t.state 1) (ended (AlreadyDone n t.growth) out g) (on_raw s out g p t.strategies))

-- the frames' refusals; 20 where no zero size ended them, or where not 50 bytes stand from it
abbrev pub on_ending : List ℕ → List ℕ → CorrectionStats → Result ℕ Refusal → Ended
on_ending s out g (Err r) = ended (Refused r) out g
on_ending s out g (Ok n) =
    cond (eqb (length s) (begin_of s n + 50)) (on_trailer s out g n (begin_of s n) (trailer_at s (begin_of s n))) (ended (Refused TrailerMissing) out g)

-- 9, then the rest
unfoldable pub filed_of : List ℕ → List ℕ → CorrectionStats → Ended
filed_of s out g = cond (full g) (ended (Refused Count) out g) (on_ending s out g (ending_of s))
