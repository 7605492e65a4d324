-- `stretch_qualities::store` meets its contract: storing what is left gives from here what storing all gives from the start. Assumes nothing.
use Prim.Native.Nat.{◌+◌, ◌-◌, ◌≤◌}
use mathlib.Core.Path.{◌≡◌}
use lib.ListN.{length, drop}
use lib.Seq.{sets}
use Rattle.stretch_qualities.proofs.store.Given as goal

abbrev pub invariant-loop-t : goal.invariant-loop-t
invariant-loop-t l = (length l.s ≡ length l.initial.s) × (l.t ≤ 32) × (sets l.s (l.at + l.t) (drop l.t l.v) ≡ sets l.initial.s l.at l.v)

abbrev pub decreases-loop-t : goal.decreases-loop-t
decreases-loop-t l = 32 - l.t
