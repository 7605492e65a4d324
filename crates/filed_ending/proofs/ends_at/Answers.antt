-- `filed_ending::ends_at` meets its contract: four bytes hold the number 0 if each of them is 0. Assumes nothing.
use Prim.Native.Nat.{ℕ, zero, suc, ◌+◌, ◌-◌, ◌*◌, ◌<◌, ◌≤◌}
use mathlib.Core.Path.{◌≡◌, refl, sym, ◌∙◌, ap}
use mathlib.Core.Bool.{Bool, true, false, cond, ◌&&◌}
use mathlib.Core.List.{List, [], ◌∷◌}
use mathlib.Core.Logic.{⊎_elim}
use native.Mathlib.Omega.{arith}
use borrow.Author.Tests.{lt-ltb, le-ltb, ne_eqb}
use lib.Dec.{ltb, eqb}
use lib.ListN.{length, take, drop, length-drop, take-append-drop}
use lib.Seq.{take_all, length-take-le}
use Rattle.std.specs.List.{starts_with}
use Rattle.std.specs.Prelude.{Ok}
use Rattle.fields.specs.Number.{unsigned}
use Rattle.fields.proofs.Arith.{lt_or_le}
use Rattle.fields.proofs.NumberLaws.{le_behind}
use Rattle.filed_ending.specs.Ending.{zero_at}
use Rattle.filed_ending.proofs.ends_at.Goals as goal

abbrev zeros : List ℕ
zeros = 0 ∷ 0 ∷ 0 ∷ 0 ∷ []

and_false : (x : Bool) → x && false ≡ false
and_false true = refl
and_false false = refl

each_zero : (a b c d : ℕ) → eqb 0 a && (eqb 0 b && (eqb 0 c && (eqb 0 d && true))) ≡ eqb (a + 256 * (b + 256 * (c + 256 * (d + 256 * 0)))) 0
each_zero zero zero zero zero = refl
each_zero zero zero zero (suc d) = rw (ne_eqb 0 (suc d) (λ z. omega arith)) (sym (ne_eqb _ 0 (λ z. omega arith)))
each_zero zero zero (suc c) d = rw (ne_eqb 0 (suc c) (λ z. omega arith)) (sym (ne_eqb _ 0 (λ z. omega arith)))
each_zero zero (suc b) c d = rw (ne_eqb 0 (suc b) (λ z. omega arith)) (sym (ne_eqb _ 0 (λ z. omega arith)))
each_zero (suc a) b c d = rw (ne_eqb 0 (suc a) (λ z. omega arith)) (sym (ne_eqb _ 0 (λ z. omega arith)))

-- a list begins with four zeros if it has four bytes, and they hold the number 0
zeros_first : (y : List ℕ) → starts_with eqb y zeros ≡ cond (ltb (length y) 4) false (eqb (unsigned 4 y 0) 0)
unfolding unsigned
zeros_first [] = refl
zeros_first (a ∷ []) = and_false (eqb 0 a)
zeros_first (a ∷ b ∷ []) = simp and_false
zeros_first (a ∷ b ∷ c ∷ []) = simp and_false
zeros_first (a ∷ b ∷ c ∷ d ∷ y) = rw (le-ltb (length (a ∷ b ∷ c ∷ d ∷ y)) 4 (omega arith)) (each_zero a b c d)

-- so it does behind a place of s
zeros_at : (s : List ℕ) (p : ℕ) → p < length s → starts_with eqb (take (length s - p) (drop p s)) zeros ≡ zero_at s p
zeros_at s p h =
    let n = length-drop p s in
    let front : length (take p s) + 0 ≡ p = omega (arith, length-take-le p s (omega arith)) in
    let number : unsigned 4 (drop p s) 0 ≡ unsigned 4 s p = sym (le_behind 4 (take p s) (drop p s) 0) ∙ (λ i. unsigned 4 (take-append-drop p s i) (front i)) in
    ap (λ (x : List ℕ). starts_with eqb x zeros) (take_all (length s - p) (drop p s) (omega (arith, n))) ∙ zeros_first (drop p s)
    ∙ ⊎_elim
    (λ (l : length s < p + 4). rw (lt-ltb (length s) (p + 4) l, lt-ltb (length (drop p s)) 4 (omega (arith, n))) refl)
    (λ (g : p + 4 ≤ length s). rw (le-ltb (length s) (p + 4) g, le-ltb (length (drop p s)) 4 (omega (arith, n)), number) refl)
    (lt_or_le (length s) (p + 4))

pub returns : goal.returns
returns c =
    let more = lt-ltb _ _ c.if-s-at.false in
    rw more (ap Ok (c.starts_with.ensures.value ∙ zeros_at c.args.s.now c.args.at c.if-s-at.false))
