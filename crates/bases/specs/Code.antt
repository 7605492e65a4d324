-- Base codes. (SAM, section 4.2)
use Rattle.std.specs.Prelude.{ℕ}
use Prim.Native.String.{String}
use Rattle.std.proofs.Math.Option.{Option, none, some}
use text.Mathlib.Text.{find?}

-- the letters of the codes 0 to 15
abbrev pub letters : String
letters = "=ACMGRSVTWYHKDBN"

abbrev pub place_or : ℕ → Option ℕ → ℕ
place_or n none = n
place_or n (some k) = k

-- the code of a letter: its place among them; any other has none
abbrev pub code : String → ℕ
code letter = place_or 16 (find? letters letter)

-- a base that was not called
abbrev pub N : ℕ
N = code "N"
