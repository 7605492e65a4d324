-- How long records are, by their table: what a test of each says, and the longest that a group may have.
use Prim.Native.Nat.{ℕ, ◌≤◌}
use mathlib.Core.List.{List}
use native.Mathlib.Omega.{arith}
use Rattle.group_frames.specs.Table.{FrameTable}
use Rattle.filed_writing.specs.Short.{Short}
use Rattle.filed_writing.proofs.PlaceLaws.{small}

pub short_enough : (s begins : List ℕ) (n : ℕ) → FrameTable s begins n → (m : ℕ) → 65536 ≤ m → Short begins n m
short_enough s begins n t m h = λ k b. omega (arith, small s begins n t k b)
