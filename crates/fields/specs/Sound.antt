-- What a record that passes the check is known to hold.
use Rattle.std.specs.Prelude.{ℕ, ◌+◌, ◌/◌, ◌≤◌, List, ◌≡◌, length}
use Rattle.fields.specs.Layout.{layout_of}
use Rattle.fields.specs.declared.Layout.{Layout}

-- the parts of a layout lie, in this order, within n bytes
pub record Lies (y : Layout) (n : ℕ) : Type 0 where
  pub operations : y.operations ≤ y.bases
  pub bases : y.bases + (y.count + 1) / 2 ≤ y.qualities
  pub qualities : y.qualities + y.count ≤ n

-- y is the layout of s, whose length is allowed and which holds all that y names
pub record Sound (s : List ℕ) (y : Layout) : Type 0 where
  pub layout : y ≡ layout_of s
  pub lies : Lies y (length s)
  pub fixed : 32 ≤ length s
  pub allowed : length s ≤ 65536
  pub after : 32 ≤ y.operations
