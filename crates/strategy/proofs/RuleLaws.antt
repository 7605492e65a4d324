-- The rule's cases, as the code meets them; and what every treatment keeps.
use Prim.Native.Nat.{ℕ, ◌+◌, ◌-◌, ◌<◌, max}
use mathlib.Core.Path.{◌≡◌, ap₂}
use mathlib.Core.Bool.{Bool, true, false, cond, ◌&&◌, ◌||◌}
use native.Mathlib.Omega.{arith}
use lib.Dec.{eqb, ltb, leb}
use borrow.Author.Tests.{lt-ltb, le-ltb, ne_eqb}
use Rattle.bases.specs.Code.{N}
use Rattle.stats.specs.Room.{AtMost}
use Rattle.strategy.specs.declared.AgreementStrategy.{AgreementStrategy}
use Rattle.strategy.specs.declared.DisagreementStrategy.{DisagreementStrategy}
use Rattle.strategy.specs.declared.DisagreementStrategy.TheVariants as Differ
use Rattle.strategy.specs.declared.Strategies.{Strategies}
use Rattle.strategy.specs.declared.Treated.{Treated}
use Rattle.strategy.specs.Rule.{qual_by, agreed_to, agreed, differed_base, differed_count, differed_to, differed, treated}

-- ---- what the code answers, by the strategy that it matched
pub agreed_as : (w : Strategies) (m : AgreementStrategy) (x a b p q : ℕ) → w.agreement ≡ m → p ≡ qual_by m w.cap a b → q ≡ qual_by m w.cap b a
    → agreed_to x a b p q ≡ agreed w x a b
agreed_as w m x a b p q e f g = rw (e, f, g)

module _ (k : DisagreementStrategy) (x a y b : ℕ) where
  pub call_second : k ≡ Differ.Consensus → a < b → differed_to y (max (b - a) 2) y (max (b - a) 2) 2 ≡ differed k x a y b
  call_second e h =
      let n : eqb a b ≡ false = ne_eqb a b (λ q. omega arith) in
      let n' : eqb b a ≡ false = ne_eqb b a (λ q. omega arith) in
      let l : ltb a b ≡ true = lt-ltb a b h in
      let l' : ltb b a ≡ false = le-ltb b a (omega arith) in
      let q : max (b - a) 2 ≡ max ((a - b) + (b - a)) 2 = omega arith in
      let q' : max (b - a) 2 ≡ max ((b - a) + (a - b)) 2 = omega arith in
      rw (e, n, n', l, l') (ap₂ (λ (s t : ℕ). differed_to y s y t 2) q q')

  pub call_first : k ≡ Differ.Consensus → b < a → differed_to x (max (a - b) 2) x (max (a - b) 2) 2 ≡ differed k x a y b
  call_first e h =
      let n : eqb a b ≡ false = ne_eqb a b (λ q. omega arith) in
      let n' : eqb b a ≡ false = ne_eqb b a (λ q. omega arith) in
      let l : ltb a b ≡ false = le-ltb a b (omega arith) in
      let l' : ltb b a ≡ true = lt-ltb b a h in
      let q : max (a - b) 2 ≡ max ((a - b) + (b - a)) 2 = omega arith in
      let q' : max (a - b) 2 ≡ max ((b - a) + (a - b)) 2 = omega arith in
      rw (e, n, n', l, l') (ap₂ (λ (s t : ℕ). differed_to x s x t 2) q q')

-- ---- what every treatment keeps: base codes stay below 16, and no count grows by more than 2
pub record Fine (o : Treated) : Type 0 where
  pub base1 : o.base1 < 16
  pub base2 : o.base2 < 16
  pub growth : AtMost 2 o.growth

below : (t : Bool) (x y n : ℕ) → x < n → y < n → cond t x y < n
below true x y n h k = h
below false x y n h k = k

fine_agreed : (x a b p q : ℕ) → x < 16 → Fine (agreed_to x a b p q)
fine_agreed x a b p q h =
    let c : cond (eqb a p && eqb b q) 0 1 < 3 = below (eqb a p && eqb b q) 0 1 3 (omega arith) (omega arith) in
    record { base1 = h; base2 = h; growth = omega arith }

differed_low : (k : DisagreementStrategy) (x a y b : ℕ) → x < 16 → y < 16 → differed_base k x a y b < 16
differed_low Differ.Consensus x a y b h l = below (eqb a b) N (cond (ltb a b) y x) 16 (omega arith) (below (ltb a b) y x 16 l h)
differed_low Differ.MaskBoth x a y b h l = omega arith
differed_low Differ.MaskLowerQual x a y b h l = below (leb a b) N x 16 (omega arith) h

count_low : (k : DisagreementStrategy) (a b : ℕ) → differed_count k a b < 3
count_low Differ.Consensus a b = omega arith
count_low Differ.MaskBoth a b = omega arith
count_low Differ.MaskLowerQual a b = below (eqb a b) 2 1 3 (omega arith) (omega arith)

fine_differed : (k : DisagreementStrategy) (x a y b : ℕ) → x < 16 → y < 16 → Fine (differed k x a y b)
fine_differed k x a y b h l =
    let c = count_low k a b in
    record { base1 = differed_low k x a y b h l; base2 = differed_low k y b x a l h; growth = record { overlapping = omega arith; agreeing = omega arith; disagreeing = omega arith; corrected = omega arith } }

fine_cond : (t : Bool) {p q : Treated} → Fine p → Fine q → Fine (cond t p q)
fine_cond true h k = h
fine_cond false h k = k

pub fine : (w : Strategies) (x a y b : ℕ) → x < 16 → y < 16 → Fine (treated w x a y b)
unfolding treated
fine w x a y b h l =
    fine_cond (eqb x N || eqb y N) (omega arith)
    (fine_cond (eqb x y) (fine_agreed x a b _ _ h) (fine_differed w.disagreement x a y b h l))
