-- The loop keeps: the numbers so far stand at `at`, and all else is as it was.
use Rattle.std.proofs.Common.{◌≤◌, ◌+◌, ◌*◌, take}
use Rattle.line_text.specs.Line.{all_spaced}
use Rattle.line_text.specs.Put.{Put}
use Rattle.line_text.proofs.put_numbers.Given as goal

abbrev pub invariant-loop-n : goal.invariant-loop-n
invariant-loop-n l = record { put : Put l.initial.out l.at (all_spaced (take l.n-index l.numbers)) l.out l.end; short : l.end ≤ l.at + 21 * l.n-index }
