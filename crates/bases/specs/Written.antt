-- Bases and qualities as they are read and written, byte by byte.
use Rattle.std.specs.Prelude.{ℕ, zero, suc, ◌+◌, ◌*◌, ◌/◌, ◌%◌, ◌<◌, ◌≡◌, List, get_or, set}
use Rattle.fields.specs.declared.Layout.{Layout}
use Rattle.bases.specs.declared.Seen.{Seen}
use Rattle.bases.specs.Base.{base_at, quality_at}

-- the byte with this half as v, and the other as it was
abbrev pub with_half : ℕ → ℕ → ℕ → ℕ
with_half zero b v = v * 16 + b % 16
with_half (suc n) b v = b / 16 * 16 + v

unfoldable pub with_base : List ℕ → Layout → ℕ → ℕ → List ℕ
with_base s y i v = set s (y.bases + i / 2) (with_half (i % 2) (get_or s (y.bases + i / 2) 0) v)

unfoldable pub with_seen : List ℕ → Layout → ℕ → ℕ → ℕ → List ℕ
with_seen s y i v q = set (with_base s y i v) (y.qualities + i) q

-- what is read of base i
pub record SeenAt (s : List ℕ) (y : Layout) (i : ℕ) (r : Seen) : Type 0 where
  pub base : r.base ≡ base_at s y i
  pub quality : r.quality ≡ quality_at s y i
  pub small : r.base < 16
