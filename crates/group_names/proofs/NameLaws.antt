-- Names compared by their bytes, and small facts on tests.
use Prim.Native.Nat.{ℕ, suc}
use mathlib.Core.Path.{◌≡◌, refl, ap₂}
use mathlib.Core.List.{List, [], ◌∷◌}
use mathlib.Core.Bool.{Bool, true, false, cond, ◌&&◌}
use native.Mathlib.Omega.{arith}
use borrow.Author.Tests.{eq-eqb, eqb-true}
use lib.Dec.{eqb}
use Rattle.group_names.specs.Same.{same_bytes}

pub no_bool : false ≡ true → ⊥
no_bool e = let z : ◌≡◌ {A = ℕ} 0 1 = cc in omega arith

pub and_true : (a b : Bool) → (a && b) ≡ true → (a ≡ true) × (b ≡ true)
and_true true true e = (refl, refl)
and_true true false e = absurd (no_bool e)
and_true false b e = absurd (no_bool e)

pub cond_suc : (t : Bool) (x k : ℕ) → cond t x 0 ≡ suc k → (t ≡ true) × (x ≡ suc k)
cond_suc true x k e = (refl, e)
cond_suc false x k e = absurd (omega arith)

pub same_true : (x y : List ℕ) → same_bytes x y ≡ true → x ≡ y
same_true [] [] e = refl
same_true [] (b ∷ y) e = absurd (no_bool e)
same_true (a ∷ x) [] e = absurd (no_bool e)
same_true (a ∷ x) (b ∷ y) e =
    let p = and_true (eqb a b) (same_bytes x y) e in
    ap₂ ◌∷◌ (eqb-true a b p.0) (same_true x y p.1)

pub same_refl : (x : List ℕ) → same_bytes x x ≡ true
same_refl [] = refl
same_refl (a ∷ x) = rw (eq-eqb a a refl) (same_refl x)
