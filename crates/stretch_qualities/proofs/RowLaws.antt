-- A block is several positions of a stretch at once, and stretches go one behind the other.
use Prim.Native.Nat.{ℕ, zero, suc, ◌+◌, ◌-◌, ◌≤◌, ◌<◌}
use mathlib.Core.Path.{◌≡◌, refl, sym, ap, ◌∙◌}
use mathlib.Core.List.{List, [], ◌∷◌}
use mathlib.Core.Bool.{◌&&◌}
use native.Mathlib.Omega.{arith}
use lib.ListN.{length, get_or, set, drop, length-set, drop_of_length-le}
use lib.Seq.{set-get_or, get_or-set_other, drop-cons, sets}
use lib.Dec.{eqb}
use borrow.Author.Tests.{lt-ltb, le-ltb, eq-eqb}
use Rattle.strategy.specs.declared.Strategies.{Strategies}
use Rattle.strategy.specs.Rule.{agreed_qual}
use Rattle.lane.specs.LaneRule.{changed_of}
use Rattle.lane.proofs.LaneLaws.{bit_low}
use Rattle.stretch_qualities.specs.declared.Block.{Block}
use Rattle.stretch_qualities.specs.Blocks.{sum_of, change_at, BlockOf}
use Rattle.stretch_qualities.specs.Stretched.{Stretched, stretched, agreed_at, agreed_row}
use Rattle.stretch_qualities.proofs.SumLaws.{sum_rest}

-- ---- arrays stored are positions treated
-- element t of both arrays is what the strategy makes of the bytes p + t of a and q + t of b, and f t says whether one changes
record Made (w : Strategies) (f : ℕ → ℕ) (u v : List ℕ) (p q : ℕ) (a b : List ℕ) (t : ℕ) : Type 0 where
  pub qual1 : get_or u t 0 ≡ agreed_qual w (get_or a (p + t) 0) (get_or b (q + t) 0)
  pub qual2 : get_or v t 0 ≡ agreed_qual w (get_or b (q + t) 0) (get_or a (p + t) 0)
  pub change : f t ≡ changed_of (get_or a (p + t) 0) (get_or b (q + t) 0) (get_or u t 0) (get_or v t 0)

made_later : (w : Strategies) (f : ℕ → ℕ) (u v : List ℕ) (p q k l x y : ℕ) (a b : List ℕ) (t : ℕ) → (p + t ≡ k → ⊥) → (q + t ≡ l → ⊥)
    → Made w f u v p q a b t → Made w f u v p q (set a k x) (set b l y) t
made_later w f u v p q k l x y a b t h g r =
    let e = get_or-set_other a k (p + t) x 0 h in
    let d = get_or-set_other b l (q + t) y 0 g in
    record { qual1 = rw (e, d) r.qual1; qual2 = rw (e, d) r.qual2; change = rw (e, d) r.change }

stored_row : (w : Strategies) (f : ℕ → ℕ) (u v : List ℕ) (p q n d : ℕ) (a b : List ℕ) (c : ℕ) → length u ≡ d + n → length v ≡ d + n
    → ((t : ℕ) → d ≤ t → t < d + n → Made w f u v p q a b t)
    → agreed_row w (p + d) (q + d) n (stretched a b c) ≡ stretched (sets a (p + d) (drop d u)) (sets b (q + d) (drop d v)) (c + sum_of f d n)
unfolding agreed_row sum_of
stored_row w f u v p q zero d a b c hu hv each =
    let e : c + 0 ≡ c = omega arith in
    let eu : drop d u ≡ [] = drop_of_length-le u {i = d} (omega arith) in
    let ev : drop d v ≡ [] = drop_of_length-le v {i = d} (omega arith) in
    rw (eu, ev, e)
stored_row w f u v p q (suc n) d a b c hu hv each =
    let here = each d (omega arith) (omega arith) in
    let x = get_or u d 0 in
    let y = get_or v d 0 in
    let e1 : p + suc d ≡ suc (p + d) = omega arith in
    let e2 : q + suc d ≡ suc (q + d) = omega arith in
    let e3 : c + f d + sum_of f (suc d) n ≡ c + (f d + sum_of f (suc d) n) = omega arith in
    rw (← here.qual1, ← here.qual2, ← here.change, drop-cons u d 0 (omega arith), drop-cons v d 0 (omega arith), ← e3)
    (rw (e1, e2) at
    (stored_row w f u v p q n (suc d) (set a (p + d) x) (set b (q + d) y) (c + f d) (omega arith) (omega arith)
    (λ t h l. made_later w f u v p q (p + d) (q + d) x y a b t (λ z. omega arith) (λ z. omega arith) (each t (omega arith) (omega arith)))))

-- what stands there already may be stored or not
store_front : (s v : List ℕ) (k d : ℕ) → ((t : ℕ) → t < d → get_or v t 0 ≡ get_or s (k + t) 0) → d ≤ length v → sets s k v ≡ sets s (k + d) (drop d v)
store_front s v k zero h l = let e : k + 0 ≡ k = omega arith in rw e
store_front s [] k (suc d) h l = absurd (omega arith)
store_front s (x ∷ v) k (suc d) h l =
    let e0 : k + 0 ≡ k = omega arith in
    let e : x ≡ get_or s k 0 = rw e0 at (h 0 (omega arith)) in
    let o : set s k x ≡ s = ap (set s k) e ∙ set-get_or s k 0 in
    let e1 : k + suc d ≡ suc k + d = omega arith in
    rw (o, e1) (store_front s v (suc k) d (λ t q. let e2 : k + suc t ≡ suc k + t = omega arith in rw e2 at (h (suc t) (omega arith))) (omega arith))

-- ---- a block whose first d lanes stay
module _ (w : Strategies) (a : List ℕ) (p : ℕ) (b : List ℕ) (q d : ℕ) (l : Block) (h : d ≤ 32) (so : BlockOf w a p b q d l) where
  f : ℕ → ℕ
  f = change_at w a p b q d

  none : (t : ℕ) → t < d → f t ≡ 0
  unfolding f
  none t z = rw (lt-ltb t d z, eq-eqb (get_or a (p + t) 0) (get_or a (p + t) 0) refl, eq-eqb (get_or b (q + t) 0) (get_or b (q + t) 0) refl)

  made : (t : ℕ) → d ≤ t → t < 32 → Made w f l.qual1 l.qual2 p q a b t
  unfolding f
  made t z k =
      record {
        qual1 = so.qual1 t k ∙ rw (le-ltb t d z);
        qual2 = so.qual2 t k ∙ rw (le-ltb t d z);
        change = rw (so.qual1 t k, so.qual2 t k);
      }

  -- the two stores, and the count
  pub block_row : (a' b' : List ℕ) (c : ℕ) → a' ≡ sets a p l.qual1 → b' ≡ sets b q l.qual2 → c ≡ l.corrected
      → stretched a' b' c ≡ agreed_row w (p + d) (q + d) (32 - d) (stretched a b 0)
  unfolding f
  block_row a' b' c ea eb ec =
      let e : d + (32 - d) ≡ 32 = omega arith in
      let s1 = store_front a l.qual1 p d (λ t z. so.qual1 t (omega arith) ∙ rw (lt-ltb t d z)) (omega (arith, so.length₁)) in
      let s2 = store_front b l.qual2 q d (λ t z. so.qual2 t (omega arith) ∙ rw (lt-ltb t d z)) (omega (arith, so.length₂)) in
      let e0 : 0 + sum_of f d (32 - d) ≡ sum_of f d (32 - d) = omega arith in
      rw (ea, eb, ec, s1, s2, so.corrected, sum_rest f d h none)
      (sym (rw e0 at (stored_row w f l.qual1 l.qual2 p q (32 - d) d a b 0 (omega (arith, so.length₁)) (omega (arith, so.length₂)) (λ t z k. made t z (omega arith)))))

-- ---- stretches one behind the other
pub row_append : (w : Strategies) (p q t n : ℕ) (s : Stretched) → agreed_row w p q (t + n) s ≡ agreed_row w (p + t) (q + t) n (agreed_row w p q t s)
unfolding agreed_row
row_append w p q zero n s =
    let e : 0 + n ≡ n = omega arith in
    let e1 : p + 0 ≡ p = omega arith in
    let e2 : q + 0 ≡ q = omega arith in
    rw (e, e1, e2)
row_append w p q (suc t) n s =
    let e : suc t + n ≡ suc (t + n) = omega arith in
    let e1 : p + suc t ≡ suc p + t = omega arith in
    let e2 : q + suc t ≡ suc q + t = omega arith in
    rw (e, e1, e2) (row_append w (suc p) (suc q) t n (agreed_at w p q s))

abbrev pub further : ℕ → Stretched → Stretched
further c s = stretched s.first s.second (c + s.corrected)

-- a count begun at c ends c higher
pub row_count : (w : Strategies) (p q n c d : ℕ) (a b : List ℕ) → agreed_row w p q n (stretched a b (c + d)) ≡ further c (agreed_row w p q n (stretched a b d))
unfolding agreed_row
row_count w p q zero c d a b = refl
row_count w p q (suc n) c d a b =
    let x = get_or a p 0 in
    let y = get_or b q 0 in
    let v = changed_of x y (agreed_qual w x y) (agreed_qual w y x) in
    let e : c + d + v ≡ c + (d + v) = omega arith in
    rw e (row_count w (suc p) (suc q) n c (d + v) (set a p (agreed_qual w x y)) (set b q (agreed_qual w y x)))

-- n positions more, whose count was begun at 0
pub row_more : (w : Strategies) (p q t n k l : ℕ) (s₀ : Stretched) (a b : List ℕ) (c : ℕ) (a' b' : List ℕ) (x : ℕ) → stretched a b c ≡ agreed_row w p q t s₀
    → k ≡ p + t → l ≡ q + t → stretched a' b' x ≡ agreed_row w k l n (stretched a b 0) → stretched a' b' (c + x) ≡ agreed_row w p q (t + n) s₀
row_more w p q t n k l s₀ a b c a' b' x e ek el r =
    let z : c + 0 ≡ c = omega arith in
    ap (further c) r
    ∙ (sym (row_count w k l n c 0 a b)
    ∙ (rw (z, e, ek, el) (sym (row_append w p q t n s₀))))

-- ---- what a stretch keeps
pub row_length : (w : Strategies) (p q n : ℕ) (s : Stretched)
    → (length (agreed_row w p q n s).first ≡ length s.first) × (length (agreed_row w p q n s).second ≡ length s.second) × ((agreed_row w p q n s).corrected ≤ s.corrected + n)
unfolding agreed_row
row_length w p q zero s = (refl, refl, omega arith)
row_length w p q (suc n) s =
    let x = get_or s.first p 0 in
    let y = get_or s.second q 0 in
    let r = row_length w (suc p) (suc q) n (agreed_at w p q s) in (
      r.0 ∙ length-set s.first p _,
      r.1 ∙ length-set s.second q _,
      omega (arith, r.2, bit_low (eqb x (agreed_qual w x y) && eqb y (agreed_qual w y x))),
    )

-- t of n positions are done, and the records keep their lengths
pub record Going (w : Strategies) (p q n : ℕ) (s₀ : Stretched) (t : ℕ) (a b : List ℕ) (c : ℕ) : Type 0 where
  pub low : t ≤ n
  pub first : length a ≡ length s₀.first
  pub second : length b ≡ length s₀.second
  pub few : c ≤ s₀.corrected + t
  pub done : stretched a b c ≡ agreed_row w p q t s₀

module _ (w : Strategies) (p q n : ℕ) (s₀ : Stretched) where
  pub going_start : Going w p q n s₀ 0 s₀.first s₀.second s₀.corrected
  unfolding agreed_row
  going_start = record { low = omega arith; first = refl; second = refl; few = omega arith; done = refl }

  -- k positions more
  pub going_more : (t k i j : ℕ) (a b : List ℕ) (c : ℕ) (a' b' : List ℕ) (x : ℕ) → t + k ≤ n → i ≡ p + t → j ≡ q + t → Going w p q n s₀ t a b c
      → stretched a' b' x ≡ agreed_row w i j k (stretched a b 0) → Going w p q n s₀ (t + k) a' b' (c + x)
  going_more t k i j a b c a' b' x h ei ej g e =
      let d = row_more w p q t k i j s₀ a b c a' b' x g.done ei ej e in
      let r = row_length w p q (t + k) s₀ in
      record {
        low = h;
        first = ap (λ (s : Stretched). length s.first) d ∙ r.0;
        second = ap (λ (s : Stretched). length s.second) d ∙ r.1;
        few = omega (arith, ap (λ (s : Stretched). s.corrected) d, r.2);
        done = d;
      }

  pub going_end : (t : ℕ) (a b : List ℕ) (c : ℕ) → n ≤ t → s₀.corrected ≡ 0 → Going w p q n s₀ t a b c → (stretched a b c ≡ agreed_row w p q n s₀) × (c ≤ n)
  going_end t a b c h z g = (g.done ∙ ap (λ (k : ℕ). agreed_row w p q k s₀) (omega (arith, g.low)), omega (arith, g.few, g.low))
