-- What the program `overlap_filed` writes, by what it reads.
use Rattle.std.specs.Prelude.{ℕ, cond, List, ltb, length}
use Rattle.refusal.specs.declared.Refusal.TheVariants.{Input}
use Rattle.stats.specs.Counts.{zeroed}
use Rattle.filed.specs.declared.FiledAnswer.{FiledAnswer}
use Rattle.filed.specs.declared.FiledAnswer.TheVariants.{Corrected, AlreadyDone, Refused}
use Rattle.filed.specs.Filed.{Ended, filed_of}
use Rattle.line_text.specs.Line.{done_text, already_text, refusal_text}
use Rattle.line_text.specs.Output.{Output, alone}

-- corrected: the filed group u follows; corrected before, or refused: the line alone
abbrev pub output_by : FiledAnswer → List ℕ → Output
output_by (Corrected records pairs overlapping growth) u = record { line = done_text records pairs overlapping growth; group = u }
output_by (AlreadyDone records growth) u = alone (already_text records growth)
output_by (Refused r) u = alone (refusal_text r)

-- what is written for an outcome of the call
abbrev pub output_of : Ended → Output
output_of e = output_by e.answer e.bytes

-- 14 before all else; then the call, with an output as long as the input and counts begun at 0
unfoldable pub filed_line_of : List ℕ → Output
filed_line_of s = cond (ltb 65536 (length s)) (alone (refusal_text Input)) (output_of (filed_of s s zeroed))
