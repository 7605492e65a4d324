-- Membership of a list of pairs.
use Rattle.std.specs.Prelude.{ℕ, ◌≡◌, List, [], ◌∷◌, ◌⊎◌}

-- the pair i, j is in the list
unfoldable pub Among : List (ℕ × ℕ) → ℕ → ℕ → Type 0
Among [] i j = ⊥
Among (e ∷ l) i j = ((e.0 ≡ i) × (e.1 ≡ j)) ⊎ Among l i j
