-- Laws of the membership of a list of pairs.
use Prim.Native.Nat.{ℕ}
use mathlib.Core.Path.{◌≡◌, refl, sym}
use mathlib.Core.List.{List, [], ◌∷◌}
use mathlib.Core.Logic.{◌⊎◌, inl, inr, ⊎_elim}
use Rattle.fields.specs.Among.{Among}

pub here : (e : ℕ × ℕ) (l : List (ℕ × ℕ)) → Among (e ∷ l) e.0 e.1
unfolding Among
here e l = inl (refl, refl)

pub later : (e : ℕ × ℕ) (l : List (ℕ × ℕ)) (i j : ℕ) → Among l i j → Among (e ∷ l) i j
unfolding Among
later e l i j h = inr h

pub among_cons : (e : ℕ × ℕ) (l : List (ℕ × ℕ)) (i j : ℕ) → Among (e ∷ l) i j → ((i ≡ e.0) × (j ≡ e.1)) ⊎ Among l i j
unfolding Among
among_cons e l i j h = ⊎_elim (λ (z : (e.0 ≡ i) × (e.1 ≡ j)). inl (sym z.0, sym z.1)) (λ (z : Among l i j). inr z) h

pub among_none : (i j : ℕ) → Among [] i j → ⊥
unfolding Among
among_none i j h = h
