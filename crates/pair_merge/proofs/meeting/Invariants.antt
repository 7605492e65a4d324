-- `pair_merge::meeting` meets its contract. The loop keeps: from the first cursor's position on each cursor stands for the bases that it stood for
-- at the start, and before it no position has a base of both. The measure is the reference positions left to the two cursors. Assumes nothing.
use Prim.Native.Nat.{◌+◌, ◌-◌}
use lib.ListN.{take}
use Rattle.cigar.specs.Passing.{ref_end}
use Rattle.pair_merge.specs.Meeting.{Skipped}
use Rattle.pair_merge.proofs.meeting.Given as goal

abbrev pub invariant-loop-c : goal.invariant-loop-c
invariant-loop-c l = Skipped (take l.y.bases l.first) (take l.z.bases l.second) l.fn.a l.fn.b l.c l.d

abbrev pub decreases-loop-c : goal.decreases-loop-c
decreases-loop-c l =
    (ref_end (take l.y.bases l.first) l.fn.a - l.c.position.0) + (ref_end (take l.z.bases l.second) l.fn.b - l.d.position.0)
