-- Roles and indexes as numbers.
use Prim.Native.Nat.{ℕ, suc, ◌+◌, ◌-◌, ◌<◌, ◌≤◌}
use mathlib.Core.Path.{◌≡◌, refl, sym, ap, ◌∙◌}
use mathlib.Core.Bool.{Bool, true, false, not}
use borrow.Author.Tests.{eq-eqb, eqb-true}
use lib.Dec.{eqb}
use Rattle.std.specs.Prelude.{Option, None, Some}
use Rattle.std.specs.Option.{option_eq, SomeIff}
use native.Mathlib.Omega.{arith}
use Rattle.group_mates.specs.declared.Role.{Role}
use Rattle.group_mates.specs.declared.Role.TheVariants.{First, Last}
use Rattle.group_mates.specs.Role.{role_number, one_more}

pub role_below : (r : Role) → role_number r < 3
role_below First = omega arith
role_below Last = omega arith

no_bool : true ≡ false → ⊥
no_bool e = let z : ◌≡◌ {A = ℕ} 0 1 = cc in omega arith

-- what a test on the index of a record says of one more than it
pub other_index : (r : Option ℕ) (i : ℕ) → not (option_eq eqb r (Some i)) ≡ true → one_more r ≡ i + 1 → ⊥
other_index None i e f = omega arith
other_index (Some k) i e f = no_bool (sym e ∙ ap not (eq-eqb k i (omega arith)))

pub same_index : (r : Option ℕ) (i : ℕ) → not (option_eq eqb r (Some i)) ≡ false → one_more r ≡ i + 1
same_index None i e = absurd (no_bool e)
same_index (Some k) i e = go (eqb k i) refl e
  where
    go : (t : Bool) → eqb k i ≡ t → not t ≡ false → suc k ≡ i + 1
    go true f g = omega (arith, eqb-true k i f)
    go false f g = absurd (no_bool g)

-- the index that a number of a chain stands for
pub less_one : (c : ℕ) (r : Option ℕ) → SomeIff r (1 ≤ c) (c - 1) → one_more r ≡ c
less_one c None h = omega (arith, h)
less_one c (Some i) h = omega (arith, h.0, h.1)
