-- Laws of signed numbers: those read from 32 bits, positions that may be negative, and ids. Assumes nothing.
use Rattle.std.specs.Prelude.{Some, None}
use mathlib.Core.Path.{◌≡◌, refl, ap, sym, ◌∙◌}
use mathlib.Core.Bool.{Bool, true, false, true≢false, false≢true}
use Prim.Native.Nat.{◌^◌, ◌<◌}
use native.Mathlib.Omega.{arith}
use lib.Dec.{T, eqb}
use lib.IntN.{ℤ, pos, negsuc, nat_abs}
use lib.Signed.{lt_z, non_neg}
use borrow.Author.Tests.{ltb-true, eq-eqb, eqb-true}
use mir.Syntax.{w32}
use mir.Val.{SFits, Fits, to_z, of_z}
use mir.Facts.{to_z-of_z}
use Rattle.fields.specs.Position.{position_of, same_id}

-- a position below zero is none
pub negative : (p : ℤ) → lt_z p (pos 0) ≡ true → None ≡ position_of p
negative (pos n) e = absurd (let h : n < 0 = ltb-true n 0 e in omega arith)
negative (negsuc n) e = refl

-- any other fits 32 bits without a sign
pub not_negative : (p : ℤ) → SFits w32 p → lt_z p (pos 0) ≡ false → T (non_neg p) × Fits w32 (nat_abs p) × (Some (nat_abs p) ≡ position_of p)
not_negative (pos n) f e = let h : n < 2 ^ 31 = f.sfits in (tt, record { fits = omega arith }, refl)
not_negative (negsuc n) f e = absurd (true≢false e)

-- the test of two ids is true exactly when they are equal
pub same_id_equal : (a b : ℤ) → same_id a b ≡ true → a ≡ b
same_id_equal (pos a) (pos b) e = ap pos (eqb-true a b e)
same_id_equal (pos a) (negsuc b) e = absurd (false≢true e)
same_id_equal (negsuc a) (pos b) e = absurd (false≢true e)
same_id_equal (negsuc a) (negsuc b) e = ap negsuc (eqb-true a b e)

same_id_self : (a : ℤ) → same_id a a ≡ true
same_id_self (pos a) = eq-eqb a a refl
same_id_self (negsuc a) = eq-eqb a a refl

pub equal_same_id : (a b : ℤ) → a ≡ b → same_id a b ≡ true
equal_same_id a b e = rw (← e) (same_id_self a)

both : (x y : Bool) → (x ≡ true → y ≡ true) → (y ≡ true → x ≡ true) → x ≡ y
both true y f g = sym (f refl)
both false true f g = g refl
both false false f g = refl

-- ids are equal where their bits are
pub same_bits : (a b : ℤ) → SFits w32 a → SFits w32 b → eqb (of_z w32 a) (of_z w32 b) ≡ same_id a b
same_bits a b f g =
    let back : of_z w32 a ≡ of_z w32 b → a ≡ b = λ e. sym (to_z-of_z f) ∙ ap (to_z w32) e ∙ to_z-of_z g in
    both _ _ (λ e. equal_same_id a b (back (eqb-true _ _ e))) (λ e. eq-eqb _ _ (ap (of_z w32) (same_id_equal a b e)))
