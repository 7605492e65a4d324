-- `cigar::walk_operations` meets its contract. The loop keeps: the operations from index `i` on, with `read` and `reference` so far, give what all
-- of them give, and each sum is at most 2^28 for each byte before them. The measure is the operations left. Assumes nothing.
use Prim.Native.Nat.{◌-◌, ◌+◌, ◌*◌, ◌/◌, ◌≤◌}
use Rattle.cigar.proofs.JudgeLaws.{Walking}
use Rattle.cigar.proofs.walk_operations.Given as goal

abbrev pub invariant-loop-i : goal.invariant-loop-i
invariant-loop-i l = (l.i ≤ (l.end - l.from) / 4) × Walking l.s l.from l.end (l.from + 4 * l.i) l.read l.reference

abbrev pub decreases-loop-i : goal.decreases-loop-i
decreases-loop-i l = (l.end - l.from) / 4 - l.i
