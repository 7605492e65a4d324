-- What the program `overlap` writes, by what it reads.
use Rattle.std.specs.Prelude.{ℕ, ◌-◌, cond, List, ltb, length, get_or, drop}
use Rattle.refusal.specs.declared.Refusal.TheVariants.{Input}
use Rattle.stats.specs.Counts.{zeroed}
use Rattle.group.specs.declared.GroupAnswer.{GroupAnswer}
use Rattle.group.specs.declared.GroupAnswer.TheVariants.{Done, Refused}
use Rattle.group.specs.Group.{Ended, group_of}
use Rattle.line_text.specs.Line.{done_text, refusal_text}
use Rattle.line_text.specs.Output.{Output, alone}

-- the number of the digit at byte k; 3, which names no strategy, for a missing byte or one below `0`
abbrev pub number_at : List ℕ → ℕ → ℕ
number_at s k = cond (ltb k (length s)) (cond (ltb (get_or s k 0) 48) 3 (get_or s k 0 - 48)) 3

-- accepted: the group follows; refused: the line alone
abbrev pub output_by : GroupAnswer → Ended → Output
output_by (Done records pairs overlapping) e = record { line = done_text records pairs overlapping e.stats; group = e.bytes }
output_by (Refused r) e = alone (refusal_text r)

abbrev pub output_of : Ended → Output
output_of e = output_by e.answer e

-- 14 before all else; then two digits and a group, with the cap 93 and its counts begun at 0
unfoldable pub overlap_of : List ℕ → Output
overlap_of s =
    cond (ltb 65536 (length s)) (alone (refusal_text Input)) (output_of (group_of (number_at s 0) (number_at s 1) 93 (drop 2 s) zeroed))
