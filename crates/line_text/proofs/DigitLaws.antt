-- The fewest decimal digits of a number are its digits.
use Prim.Native.Nat.{ℕ, zero, suc, ◌-◌, ◌/◌, ◌%◌, ◌^◌, ◌<◌, ◌≤◌}
use mathlib.Core.Path.{◌≡◌, refl, ap}
use mathlib.Core.Bool.{Bool, true, false, cond}
use mathlib.Core.List.{List, [], ◌∷◌, ◌++◌}
use mathlib.Core.Logic.{⊎_elim}
use native.Mathlib.Nat.{pow-suc, pow-zero, one-le-pow, pow-le-pow_right}
use Rattle.fields.proofs.Arith.{lt_or_le}
use native.Mathlib.Omega.{arith}
use borrow.Author.Tests.{ltb-true, ltb-false}
use lib.Dec.{ltb}
use Rattle.io.specs.Digits.{hex_digit_ascii, last_digits, IsDigitCount}
use Rattle.line_text.specs.Line.{decimal_from}

pub fewest_digits : (k r n : ℕ) → r ≤ k → IsDigitCount 10 1 n r → last_digits 10 r n ≡ decimal_from k n
unfolding decimal_from
fewest_digits k zero n h f = absurd (omega (arith, f.0))
fewest_digits zero (suc r) n h f = absurd (omega arith)
fewest_digits (suc k) (suc zero) n h f = go (ltb n 10) refl
  where
    small : n < 10
    small = omega (arith, f.1, pow-suc 10 0, pow-zero 10)

    go : (t : Bool) → ltb n 10 ≡ t → hex_digit_ascii (n % 10) ∷ [] ≡ cond t (hex_digit_ascii n ∷ []) (decimal_from k (n / 10) ++ (hex_digit_ascii (n % 10) ∷ []))
    go true e = let z : n % 10 ≡ n = omega (arith, small) in ap (λ (x : ℕ). hex_digit_ascii x ∷ []) z
    go false e = absurd (omega (arith, small, ltb-false n 10 e))
fewest_digits (suc k) (suc (suc r)) n h f = go (fewest_digits k (suc r) (n / 10) (omega arith) fewer) (ltb n 10) refl
  where
    back : (q : ℕ) → 10 ^ (suc q - 1) ≡ 10 ^ q
    back q = let z : suc q - 1 ≡ q = omega arith in ap (λ (x : ℕ). 10 ^ x) z

    many : 10 ^ suc r ≤ n
    many = rw (back (suc r)) at (f.2 (omega arith))

    fewer : IsDigitCount 10 1 (n / 10) (suc r)
    fewer = (omega arith, omega (arith, f.1, pow-suc 10 (suc r)), λ l. rw (back r) (omega (arith, many, pow-suc 10 r)))

    go : last_digits 10 (suc r) (n / 10) ≡ decimal_from k (n / 10) → (t : Bool) → ltb n 10 ≡ t → last_digits 10 (suc r) (n / 10) ++ (hex_digit_ascii (n % 10) ∷ []) ≡ cond t (hex_digit_ascii n ∷ []) (decimal_from k (n / 10) ++ (hex_digit_ascii (n % 10) ∷ []))
    go up true e = absurd (omega (arith, ltb-true n 10 e, many, pow-suc 10 r, one-le-pow r 10 (omega arith)))
    go up false e = ap (λ (x : List ℕ). x ++ (hex_digit_ascii (n % 10) ∷ [])) up

-- a number below 2 ^ 64 has at most 20
pub few_digits : (n k : ℕ) → n < 18446744073709551616 → IsDigitCount 10 1 n k → k ≤ 20
few_digits n k h f =
    ⊎_elim
    (λ (l : 20 < k).
    let p : 10 ^ 20 ≤ 10 ^ (k - 1) = pow-le-pow_right (omega arith) {i = 20} {j = k - 1} (omega arith) in
    absurd (omega (arith, p, f.2 (omega arith))))
    (λ (g : k ≤ 20). g)
    (lt_or_le 20 k)
