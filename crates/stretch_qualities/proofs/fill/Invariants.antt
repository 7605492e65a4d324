-- `stretch_qualities::fill` meets its contract. The loop keeps: t lanes are done, and the sum has not wrapped. Assumes nothing.
use Prim.Native.Nat.{◌-◌}
use mathlib.Core.Path.{◌≡◌}
use Rattle.stretch_qualities.proofs.BlockLaws.{Filling, block, live_table}
use Rattle.stretch_qualities.proofs.fill.Given as goal

abbrev pub invariant-loop-t : goal.invariant-loop-t
invariant-loop-t g l = (l.live ≡ live_table) × Filling l.w l.first l.p l.second l.q (32 - l.n) l.t (block l.qual1 l.qual2 l.corrected)
