-- Flags of a record.
use Rattle.std.specs.Prelude.{ℕ, ◌/◌, ◌%◌, Bool, eqb}

-- the bit of weight w is set in n
abbrev pub has_bit : ℕ → ℕ → Bool
has_bit n w = eqb (n / w % 2) 1

-- the weight of each flag
abbrev pub unmapped : ℕ
unmapped = 4

abbrev pub first_segment : ℕ
first_segment = 64

abbrev pub last_segment : ℕ
last_segment = 128

abbrev pub secondary : ℕ
secondary = 256

abbrev pub supplementary : ℕ
supplementary = 2048
