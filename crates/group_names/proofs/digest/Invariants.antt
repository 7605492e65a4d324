-- `group_names::digest` meets its contract. The loop keeps: the eights from byte `i` on, in front of the last eight bytes, mixed into `h`, give what
-- all of them give mixed into 0. The measure is the bytes left. Assumes nothing.
use Prim.Native.Nat.{◌+◌, ◌-◌, ◌/◌}
use mathlib.Core.Path.{◌≡◌}
use lib.ListN.{length}
use Rattle.group_names.specs.Digest.{mixed}
use Rattle.group_names.proofs.digest.Given as goal

abbrev pub invariant-loop-i : goal.invariant-loop-i
invariant-loop-i l = mixed 8 l.h l.x l.i ((l.last - l.i + 7) / 8) ≡ mixed 8 0 l.x 0 ((length l.x - 1) / 8)

abbrev pub decreases-loop-i : goal.decreases-loop-i
decreases-loop-i l = length l.x - l.i
