-- The name as a part of the record. Assumes nothing.
use mathlib.Core.List.{List}
use mathlib.Core.Path.{◌≡◌, ap}
use Prim.Native.Nat.{ℕ, ◌-◌}
use native.Mathlib.Omega.{arith}
use lib.ListN.{take, drop, length, length-drop}
use lib.Seq.{take_all}
use Rattle.fields.specs.Layout.{header, name_in}

-- what stands from 32 on, cut where the name ends
pub name_part : (s : List ℕ) → take ((header s).name_length - 1) (take (length s - 32) (drop 32 s)) ≡ name_in s
unfolding name_in
name_part s = ap (take ((header s).name_length - 1)) (take_all _ (drop 32 s) (rw (length-drop 32 s) (omega arith)))
