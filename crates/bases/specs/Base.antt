-- Base i is in byte i / 2 of the bases, the high half for even i; its quality is byte i of the qualities.
use Rattle.std.specs.Prelude.{ℕ, zero, suc, ◌+◌, ◌/◌, ◌%◌, List, get_or}
use Rattle.fields.specs.declared.Layout.{Layout}

-- the high half of a byte for 0, else the low half
abbrev pub half : ℕ → ℕ → ℕ
half zero b = b / 16 % 16
half (suc n) b = b % 16

abbrev pub base_at : List ℕ → Layout → ℕ → ℕ
base_at s y i = half (i % 2) (get_or s (y.bases + i / 2) 0)

abbrev pub quality_at : List ℕ → Layout → ℕ → ℕ
quality_at s y i = get_or s (y.qualities + i) 0
