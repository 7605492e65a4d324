-- Laws of a base that is read, and of one that is written: what was written is read, and every other bit stays.
use Prim.Native.Nat.{ℕ, zero, suc, ◌+◌, ◌*◌, ◌/◌, ◌%◌, ◌≤◌, ◌<◌}
use mathlib.Core.Path.{◌≡◌, refl, sym, ap, ◌∙◌}
use mathlib.Core.List.{List}
use mathlib.Core.Logic.{◌⊎◌, ⊎_elim}
use native.Mathlib.Omega.{arith}
use lib.ListN.{length, get_or, set, take, length-set}
use lib.Seq.{take-set-le, get_or-set_same, get_or-set_other}
use Rattle.fields.specs.declared.Layout.{Layout}
use Rattle.fields.specs.Sound.{Lies}
use Rattle.bases.specs.Base.{half, base_at, quality_at}
use Rattle.bases.specs.Written.{with_half, with_base, with_seen}
use Rattle.fields.proofs.Arith.{eq_or_ne}

-- ---- a half of a byte
with_odd : (n b v : ℕ) → (n ≡ 0 → ⊥) → with_half n b v ≡ b / 16 * 16 + v
with_odd zero b v h = absurd (h refl)
with_odd (suc n) b v h = refl

pub put_even : (l : List ℕ) (y : Layout) (i v : ℕ) → i % 2 ≡ 0 → set l (y.bases + i / 2) (v * 16 + get_or l (y.bases + i / 2) 0 % 16) ≡ with_base l y i v
unfolding with_base
put_even l y i v e = rw e

pub put_odd : (l : List ℕ) (y : Layout) (i v : ℕ) → (i % 2 ≡ 0 → ⊥) → set l (y.bases + i / 2) (get_or l (y.bases + i / 2) 0 / 16 * 16 + v) ≡ with_base l y i v
unfolding with_base
put_odd l y i v e = ap (λ (w : ℕ). set l (y.bases + i / 2) w) (sym (with_odd (i % 2) _ v e))

pub put_is : (l m : List ℕ) (y : Layout) (i v x : ℕ) → m ≡ with_base l y i v → set m (y.qualities + i) x ≡ with_seen l y i v x
unfolding with_seen
put_is l m y i v x e = ap (λ (k : List ℕ). set k (y.qualities + i) x) e

-- a base is below 16
pub half_small : (n b : ℕ) → half n b < 16
half_small zero b = omega arith
half_small (suc n) b = omega arith

-- ---- what stays
pub put_length : (l : List ℕ) (y : Layout) (i v x : ℕ) → length (with_seen l y i v x) ≡ length l
unfolding with_seen with_base
put_length l y i v x = simp length-set

pub put_front : (l : List ℕ) (y : Layout) (i v x : ℕ) → y.bases ≤ y.qualities → take y.bases (with_seen l y i v x) ≡ take y.bases l
unfolding with_seen with_base
put_front l y i v x h = take-set-le y.bases _ (y.qualities + i) x (omega arith) ∙ take-set-le y.bases l (y.bases + i / 2) _ (omega arith)

pub lies_same : {y : Layout} {m n : ℕ} → m ≡ n → Lies y n → Lies y m
lies_same e h = record { operations = h.operations; bases = h.bases; qualities = omega (arith, h.qualities) }

-- ---- one store
half_with : (n b v : ℕ) → v < 16 → half n (with_half n b v) ≡ v
half_with zero b v h = omega arith
half_with (suc n) b v h = omega arith

half_other : (n m b v : ℕ) → n < 2 → m < 2 → (m ≡ n → ⊥) → v < 16 → half m (with_half n b v) ≡ half m b
half_other zero zero b v p q d h = absurd (d refl)
half_other zero (suc m) b v p q d h = omega arith
half_other (suc n) zero b v p q d h = omega arith
half_other (suc n) (suc m) b v p q d h = absurd (d (omega arith))

module _ (l : List ℕ) (y : Layout) (i v x : ℕ) (lies : Lies y (length l)) (low : i < y.count) where
  pub put_base_same : v < 16 → base_at (with_seen l y i v x) y i ≡ v
  unfolding with_seen with_base
  put_base_same hv =
      let m = y.bases + i / 2 in
      let w = with_half (i % 2) (get_or l m 0) v in
      let d : m ≡ y.qualities + i → ⊥ = λ e. omega (arith, lies.bases) in
      ap (half (i % 2)) (get_or-set_other (set l m w) (y.qualities + i) m x 0 d ∙ get_or-set_same l m w 0 (omega (arith, lies.bases, lies.qualities)))
      ∙ half_with (i % 2) (get_or l m 0) v hv

  pub put_base_other : (k : ℕ) → k / 2 < (y.count + 1) / 2 → (k ≡ i → ⊥) → v < 16 → base_at (with_seen l y i v x) y k ≡ base_at l y k
  unfolding with_seen with_base
  put_base_other k hk ne hv =
      let m = y.bases + i / 2 in
      let n = y.bases + k / 2 in
      let w = with_half (i % 2) (get_or l m 0) v in
      let d : n ≡ y.qualities + i → ⊥ = λ e. omega (arith, lies.bases) in
      ap (half (k % 2)) (get_or-set_other (set l m w) (y.qualities + i) n x 0 d)
      ∙ ⊎_elim
      (λ e.
      ap (half (k % 2)) (ap (λ (j : ℕ). get_or (set l m w) j 0) e ∙ get_or-set_same l m w 0 (omega (arith, lies.bases, lies.qualities)))
      ∙ (half_other (i % 2) (k % 2) (get_or l m 0) v (omega arith) (omega arith) (λ q. ne (omega arith)) hv ∙ ap (λ (j : ℕ). half (k % 2) (get_or l j 0)) (sym e)))
      (λ q. ap (half (k % 2)) (get_or-set_other l m n w 0 q))
      (eq_or_ne n m)

  pub put_qual_same : quality_at (with_seen l y i v x) y i ≡ x
  unfolding with_seen with_base
  put_qual_same = get_or-set_same (with_base l y i v) (y.qualities + i) x 0 (rw length-set (omega (arith, lies.qualities)))

  pub put_qual_other : (k : ℕ) → (k ≡ i → ⊥) → quality_at (with_seen l y i v x) y k ≡ quality_at l y k
  unfolding with_seen with_base
  put_qual_other k ne =
      get_or-set_other (with_base l y i v) (y.qualities + i) (y.qualities + k) x 0 (λ e. ne (omega arith))
      ∙ get_or-set_other l (y.bases + i / 2) (y.qualities + k) (with_half (i % 2) (get_or l (y.bases + i / 2) 0) v) 0 (λ e. omega (arith, lies.bases))

  -- a byte that holds neither a base nor a quality
  pub put_outside : (k : ℕ) → ((k < y.bases) ⊎ (y.qualities + y.count ≤ k)) ⊎ ((y.bases + (y.count + 1) / 2 ≤ k) × (k < y.qualities)) → get_or (with_seen l y i v x) k 0 ≡ get_or l k 0
  unfolding with_seen with_base
  put_outside k h =
      let a : k ≡ y.qualities + i → ⊥ = λ e. ⊎_elim (λ p. ⊎_elim (λ q. omega (arith, lies.bases)) (λ q. omega arith) p) (λ p. omega arith) h in
      let b : k ≡ y.bases + i / 2 → ⊥ = λ e. ⊎_elim (λ p. ⊎_elim (λ q. omega arith) (λ q. omega (arith, lies.bases)) p) (λ p. omega arith) h in
      get_or-set_other (with_base l y i v) (y.qualities + i) k x 0 a ∙ get_or-set_other l (y.bases + i / 2) k (with_half (i % 2) (get_or l (y.bases + i / 2) 0) v) 0 b
