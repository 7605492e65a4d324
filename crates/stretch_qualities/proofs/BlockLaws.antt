-- Loops that fill a block, the table of the lanes that are treated, and the loop that stores an array.
use Prim.Native.Nat.{ℕ, suc, ◌+◌, ◌-◌, ◌≤◌, ◌<◌}
use mathlib.Core.Path.{◌≡◌, refl, sym, ap, ◌∙◌}
use mathlib.Core.List.{List, ◌++◌}
use mathlib.Core.Bool.{cond, ◌&&◌}
use mathlib.Core.Logic.{⊎_elim}
use native.Mathlib.Omega.{arith}
use native.Mathlib.Numerals.{add-one}
use lib.ListN.{length, get_or, set, drop, replicate, length-set, drop_of_length-le, get_or-replicate, get_or-append}
use lib.Seq.{get_or-set_same, get_or-set_other, drop-cons, sets, get_or-append-add}
use lib.Dec.{ltb, eqb}
use borrow.Author.Tests.{lt-ltb, le-ltb}
use Rattle.fields.proofs.Arith.{eq_or_ne, lt_or_le}
use Rattle.strategy.specs.declared.Strategies.{Strategies}
use Rattle.lane.specs.declared.Qualities.{Qualities}
use Rattle.lane.specs.LaneRule.{agreed_of, changed_of, chosen_of}
use Rattle.lane.proofs.LaneLaws.{bit_low}
use Rattle.stretch_qualities.specs.declared.Block.{Block}
use Rattle.stretch_qualities.specs.Blocks.{sum_of, lane_at, change_at, BlockOf}
use Rattle.stretch_qualities.proofs.SumLaws.{sum_turn}

-- ---- an array filled from the front: its first n elements are those of f
abbrev Filled : (ℕ → ℕ) → ℕ → List ℕ → Type 0
Filled f n l = (k : ℕ) → k < n → get_or l k 0 ≡ f k

filled_turn : (f : ℕ → ℕ) (l : List ℕ) (u v : ℕ) → u < length l → v ≡ f u → Filled f u l → Filled f (u + 1) (set l u v)
filled_turn f l u v h e r k q =
    ⊎_elim
    (λ p. ap (λ (i : ℕ). get_or (set l u v) i 0) p ∙ (get_or-set_same l u v 0 h ∙ (e ∙ ap f (sym p))))
    (λ p. get_or-set_other l u k v 0 p ∙ r k (omega arith))
    (eq_or_ne k u)

-- whether a quality changed is a 0 or a 1
pub changed_low : (x a b p q : ℕ) → x ≡ changed_of a b p q → x ≤ 1
changed_low x a b p q e = rw e (bit_low (eqb a p && eqb b q))

abbrev pub block : List ℕ → List ℕ → ℕ → Block
block p q c = record { qual1 = p; qual2 = q; corrected = c }

module _ (w : Strategies) (a : List ℕ) (p : ℕ) (b : List ℕ) (q d : ℕ) where
  -- t lanes are done, and the sum has not wrapped
  pub record Filling (t : ℕ) (l : Block) : Type 0 where
    pub low : t ≤ 32
    pub length₁ : length l.qual1 ≡ 32
    pub length₂ : length l.qual2 ≡ 32
    pub qual1 : Filled (λ (k : ℕ). (lane_at w a p b q d k).qual1) t l.qual1
    pub qual2 : Filled (λ (k : ℕ). (lane_at w a p b q d k).qual2) t l.qual2
    pub corrected : l.corrected ≡ sum_of (change_at w a p b q d) 0 t
    pub few : l.corrected ≤ t

  pub filling_start : (u v : List ℕ) → length u ≡ 32 → length v ≡ 32 → Filling 0 (block u v 0)
  unfolding sum_of
  filling_start u v hu hv =
      record {
        low = omega arith;
        length₁ = hu;
        length₂ = hv;
        qual1 = λ k h. absurd (omega arith);
        qual2 = λ k h. absurd (omega arith);
        corrected = refl;
        few = omega arith;
      }

  module _ (t : ℕ) (u v : List ℕ) (c : ℕ) (r : Qualities) (x : ℕ) (h : t < 32) (er : r ≡ lane_at w a p b q d t)
      (ex : x ≡ changed_of (get_or a (p + t) 0) (get_or b (q + t) 0) r.qual1 r.qual2) (so : Filling t (block u v c)) where
    pub filling_turn : Filling (t + 1) (block (set u t r.qual1) (set v t r.qual2) (c + x))
    filling_turn =
        record {
          low = omega arith;
          length₁ = length-set u t _ ∙ so.length₁;
          length₂ = length-set v t _ ∙ so.length₂;
          qual1 = filled_turn (λ (k : ℕ). (lane_at w a p b q d k).qual1) u t r.qual1 (omega (arith, so.length₁)) (ap (λ (o : Qualities). o.qual1) er) so.qual1;
          qual2 = filled_turn (λ (k : ℕ). (lane_at w a p b q d k).qual2) v t r.qual2 (omega (arith, so.length₂)) (ap (λ (o : Qualities). o.qual2) er) so.qual2;
          corrected = sum_turn (change_at w a p b q d) t c x so.corrected (ex ∙ ap (λ (o : Qualities). changed_of (get_or a (p + t) 0) (get_or b (q + t) 0) o.qual1 o.qual2) er);
          few = omega (arith, changed_low x (get_or a (p + t) 0) (get_or b (q + t) 0) r.qual1 r.qual2 ex, so.few);
        }

  pub filling_end : (t : ℕ) (l : Block) → 32 ≤ t → Filling t l → BlockOf w a p b q d l
  filling_end t l h so =
      let e : t ≡ 32 = omega (arith, so.low) in
      record {
        length₁ = so.length₁;
        length₂ = so.length₂;
        qual1 = λ k z. so.qual1 k (omega arith);
        qual2 = λ k z. so.qual2 k (omega arith);
        corrected = so.corrected ∙ ap (sum_of (change_at w a p b q d) 0) e;
      }

-- ---- the lanes as the code makes them
pub lane_whole : (w : Strategies) (a : List ℕ) (p : ℕ) (b : List ℕ) (q d t : ℕ) (r : Qualities) → d ≡ 0 → r ≡ agreed_of w (get_or a (p + t) 0) (get_or b (q + t) 0) → r ≡ lane_at w a p b q d t
lane_whole w a p b q d t r z e = rw (z, le-ltb t 0 (omega arith)) e

-- a 1 for each of the last n lanes, from n on
abbrev pub live_table : List ℕ
live_table = replicate 32 0 ++ replicate 32 1

live_at : (n t : ℕ) → n ≤ 32 → t < 32 → get_or live_table (n + t) 0 ≡ cond (ltb t (32 - n)) 0 1
live_at n t h q =
    ⊎_elim
    (λ (l : t < 32 - n). rw (lt-ltb t (32 - n) l) (get_or-append (replicate 32 0) (replicate 32 1) 0 (n + t) (omega arith) ∙ get_or-replicate 32 (n + t) 0 0 (omega arith)))
    (λ (l : 32 - n ≤ t).
    let e : n + t ≡ 32 + (n + t - 32) = omega arith in
    let d : n + t - 32 < 32 = omega arith in
    rw (le-ltb t (32 - n) l, e) (get_or-append-add (replicate 32 0) (replicate 32 1) (n + t - 32) 0 ∙ get_or-replicate 32 (n + t - 32) 1 0 d))
    (lt_or_le t (32 - n))

pub lane_last : (w : Strategies) (a : List ℕ) (p : ℕ) (b : List ℕ) (q n t : ℕ) (o r : Qualities) → n ≤ 32 → t < 32 → o ≡ agreed_of w (get_or a (p + t) 0) (get_or b (q + t) 0)
    → r ≡ chosen_of (get_or live_table (n + t) 0) o (get_or a (p + t) 0) (get_or b (q + t) 0) → r ≡ lane_at w a p b q (32 - n) t
lane_last w a p b q n t o r h l eo e =
    e ∙ (ap (λ (x : ℕ). chosen_of x o (get_or a (p + t) 0) (get_or b (q + t) 0)) (live_at n t h l)
    ∙ rw eo (⊎_elim (λ (z : t < 32 - n). rw (lt-ltb t (32 - n) z)) (λ (z : 32 - n ≤ t). rw (le-ltb t (32 - n) z)) (lt_or_le t (32 - n))))

-- ---- elements stored one after the other
pub store_start : (s v : List ℕ) (at : ℕ) → sets s (at + 0) v ≡ sets s at v
store_start s v at = let e : at + 0 ≡ at = omega arith in rw e

pub store_turn : (s v : List ℕ) (at j : ℕ) → j < length v → sets (set s (at + j) (get_or v j 0)) (at + (j + 1)) (drop (j + 1) v) ≡ sets s (at + j) (drop j v)
store_turn s v at j h =
    let e : at + (j + 1) ≡ suc (at + j) = omega arith in
    rw (e, add-one j, drop-cons v j 0 h)

pub store_end : (s v : List ℕ) (k j : ℕ) → length v ≤ j → sets s k (drop j v) ≡ s
store_end s v k j h = rw (drop_of_length-le v h)
