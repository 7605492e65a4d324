-- `cigar::settle` meets its contract. The loop keeps: the cursor is at most at `end`, and stands for the same bases as the cursor given.
-- The measure is the bytes of operations left. Assumes nothing.
use Prim.Native.Nat.{◌-◌}
use Rattle.cigar.proofs.CursorLaws.{Turned}
use Rattle.cigar.proofs.settle.Given as goal

abbrev pub invariant-loop-cur : goal.invariant-loop-cur
invariant-loop-cur l = Turned l.s l.end l.initial.cur l.cur

abbrev pub decreases-loop-cur : goal.decreases-loop-cur
decreases-loop-cur l = l.end - l.cur.at
