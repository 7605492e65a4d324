-- A stretch: positions in a row at which two records agree.
use Rattle.std.specs.Prelude.{ℕ, ◌+◌, ◌≤◌, ◌<◌, ◌≡◌, List, ◌⊎◌}
use Rattle.fields.specs.declared.Layout.{Layout}
use Rattle.bases.specs.Base.{base_at}
use Rattle.bases.specs.Code.{N}

-- n bases from i of a and from j of b on are the same, and none is N
pub record Alike (a b : List ℕ) (y z : Layout) (i j n : ℕ) : Type 0 where
  pub same : (k : ℕ) → k < n → base_at a y (i + k) ≡ base_at b z (j + k)
  pub called : (k : ℕ) → k < n → base_at a y (i + k) ≡ N → ⊥

-- of n positions from i and j on, r agree, and the next, if there is one, doesn't
pub record Agreeing (a b : List ℕ) (y z : Layout) (i j n r : ℕ) : Type 0 where
  pub most : r ≤ n
  pub alike : Alike a b y z i j r
  pub ends : r < n → (base_at a y (i + r) ≡ base_at b z (j + r) → ⊥) ⊎ (base_at a y (i + r) ≡ N)
