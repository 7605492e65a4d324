-- `pair_merge::merge` meets its contract. The loop keeps: from the first cursor's position on each cursor stands for what its record has there,
-- the records keep their lengths and all before their bases, the counts have room for what is left of the first, the pairs ahead give from here
-- what all pairs give from the start, and `met` with their number is the number of all; both cursors stand at one position unless one has no base
-- left. The measure is the reference positions left to the first cursor. Assumes nothing.
use Prim.Native.Nat.{◌-◌}
use Rattle.positions.specs.Step.{state}
use Rattle.pair_merge.specs.Meeting.{Level}
use Rattle.pair_merge.proofs.MergeLaws.{Merging, e₁}
use Rattle.pair_merge.proofs.merge.Given as goal

abbrev pub invariant-loop-a : goal.invariant-loop-a
invariant-loop-a l =
    Merging l.w.strategies l.w.first l.w.second l.fn.p l.fn.q (state l.initial.first l.initial.second l.initial.h) l.a l.b l.met (state l.first l.second l.h)
    × Level l.a l.b

abbrev pub decreases-loop-a : goal.decreases-loop-a
decreases-loop-a l = e₁ l.w.strategies l.w.first l.w.second l.fn.p l.fn.q (state l.initial.first l.initial.second l.initial.h) - l.a.position.0
