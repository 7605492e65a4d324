-- `stretch_qualities::treat` meets its contract. The loop keeps: t of n positions are done, and the records keep their lengths. The measure
-- is the positions left. Assumes nothing.
use Prim.Native.Nat.{◌-◌}
use Rattle.stretch_qualities.specs.Stretched.{stretched}
use Rattle.stretch_qualities.proofs.RowLaws.{Going}
use Rattle.stretch_qualities.proofs.treat.Given as goal

abbrev pub invariant-loop-t : goal.invariant-loop-t
invariant-loop-t l = Going l.w l.p l.q l.n (stretched l.initial.first l.initial.second 0) l.t l.first l.second l.corrected

abbrev pub decreases-loop-t : goal.decreases-loop-t
decreases-loop-t l = l.n - l.t
