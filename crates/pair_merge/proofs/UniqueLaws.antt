-- No second outcome keeps the promise.
use Prim.Native.Nat.{ℕ, ◌+◌, ◌-◌, ◌*◌, ◌/◌, ◌%◌, ◌<◌}
use mathlib.Core.Path.{◌≡◌, refl, sym, ap, ◌∙◌}
use mathlib.Core.List.{List, [], ◌∷◌}
use mathlib.Core.Logic.{◌⊎◌, inl, inr, ⊎_elim}
use native.Mathlib.Omega.{arith}
use lib.ListN.{length, get_or}
use lib.Seq.{ext_get_or}
use Rattle.fields.specs.declared.Layout.{Layout}
use Rattle.fields.specs.declared.RefPos.{RefPos}
use Rattle.fields.specs.declared.ReadOffset.{ReadOffset}
use Rattle.fields.specs.Sound.{Lies}
use Rattle.fields.proofs.Arith.{lt_or_le, eq_or_ne}
use Rattle.stats.specs.Counts.{plus}
use Rattle.strategy.specs.declared.Strategies.{Strategies}
use Rattle.bases.specs.Base.{half, base_at, quality_at}
use Rattle.bases.proofs.BaseLaws.{lies_same}
use Rattle.cigar.proofs.SitsLaws.{in_read}
use Rattle.fields.specs.Among.{Among}
use Rattle.positions.specs.Step.{job, State, growths}
use Rattle.positions.proofs.PointLaws.{Both, rising_one}
use Rattle.pair_merge.specs.Shared.{shared}
use Rattle.pair_merge.specs.Promise.{Names, Outside, Corrected, Bytes}
use Rattle.pair_merge.proofs.PromiseLaws.{shared_names}

-- a list has a pair with the first number i, or none
find₁ : (l : List (ℕ × ℕ)) (i : ℕ) → ((j : ℕ) × Among l i j) ⊎ ((j : ℕ) → Among l i j → ⊥)
unfolding Among
find₁ [] i = inr (λ j h. h)
find₁ (e ∷ l) i =
    ⊎_elim (λ q. inl (e.1, inl (q, refl)))
    (λ n. ⊎_elim (λ q. inl (q.0, inr q.1)) (λ m. inr (λ j h. ⊎_elim (λ w. n w.0) (λ w. m j w) h)) (find₁ l i))
    (eq_or_ne e.0 i)

find₂ : (l : List (ℕ × ℕ)) (j : ℕ) → ((i : ℕ) × Among l i j) ⊎ ((i : ℕ) → Among l i j → ⊥)
unfolding Among
find₂ [] j = inr (λ i h. h)
find₂ (e ∷ l) j =
    ⊎_elim (λ q. inl (e.0, inl (refl, q)))
    (λ n. ⊎_elim (λ q. inl (q.0, inr q.1)) (λ m. inr (λ i h. ⊎_elim (λ w. n w.1) (λ w. m i w) h)) (find₂ l j))
    (eq_or_ne e.1 j)

-- two records of one layout with the same bases, the same qualities and the same other bytes are equal
same_record : (y : Layout) (l m : List ℕ) → Lies y (length l) → length l ≡ length m → Bytes l → Bytes m
    → ((i : ℕ) → i / 2 < (y.count + 1) / 2 → base_at l y i ≡ base_at m y i) → ((i : ℕ) → quality_at l y i ≡ quality_at m y i) → ((k : ℕ) → Outside y k → get_or l k 0 ≡ get_or m k 0) → l ≡ m
unfolding Bytes
same_record y l m lies e bl bm hb hq ho =
    ext_get_or 0 l m e
    (λ k h.
    ⊎_elim (λ a. ho k (inl (inl a)))
    (λ a.
    ⊎_elim
    (λ b.
    let x : half 0 (get_or l (y.bases + (2 * (k - y.bases)) / 2) 0) ≡ half 0 (get_or m (y.bases + (2 * (k - y.bases)) / 2) 0) = rw (even (k - y.bases)) at (hb (2 * (k - y.bases)) (omega arith)) in
    let w : half 1 (get_or l (y.bases + (2 * (k - y.bases) + 1) / 2) 0) ≡ half 1 (get_or m (y.bases + (2 * (k - y.bases) + 1) / 2) 0) = rw (odd (k - y.bases)) at (hb (2 * (k - y.bases) + 1) (omega arith)) in
    let i0 : y.bases + (2 * (k - y.bases)) / 2 ≡ k = omega arith in
    let i1 : y.bases + (2 * (k - y.bases) + 1) / 2 ≡ k = omega arith in
    let x' : half 0 (get_or l k 0) ≡ half 0 (get_or m k 0) = rw i0 at x in
    let w' : half 1 (get_or l k 0) ≡ half 1 (get_or m k 0) = rw i1 at w in
    omega (arith, bl k, bm k))
    (λ b.
    ⊎_elim (λ c. ho k (inr (b, c)))
    (λ c.
    ⊎_elim
    (λ d.
    let i : y.qualities + (k - y.qualities) ≡ k = omega arith in
    rw i at (hq (k - y.qualities)))
    (λ d. ho k (inl (inr d)))
    (lt_or_le k (y.qualities + y.count)))
    (lt_or_le k y.qualities))
    (lt_or_le k (y.bases + (y.count + 1) / 2)))
    (lt_or_le k y.bases))
  where
    even : (n : ℕ) → (2 * n) % 2 ≡ 0
    even n = omega arith

    odd : (n : ℕ) → (2 * n + 1) % 2 ≡ 1
    odd n = omega arith

module _ (v : Strategies) (y z : Layout) (r t : RefPos) (s : State) (lies : Both y z s) (u w : State) (cu : Corrected (job v y z) r t s u) (cw : Corrected (job v y z) r t s w) where
  names : Names y z r t s (shared y z r t s.first s.second)
  names = shared_names v y z r t s

  first_base : (i : ReadOffset) → (i.0 / 2 < (y.count + 1) / 2 → base_at u.first y i.0 ≡ base_at w.first y i.0) × (quality_at u.first y i.0 ≡ quality_at w.first y i.0)
  first_base i =
      ⊎_elim
      (λ q.
      let h = names.only i (in_read q.0) q.1 in
      let a = cu.both i (in_read q.0) h in
      let b = cw.both i (in_read q.0) h in
      (λ x. a.base₁ ∙ sym b.base₁, a.quality₁ ∙ sym b.quality₁))
      (λ n.
      let a = cu.alone₁ i (λ j h. n j.0 (names.all i j h)) in
      let b = cw.alone₁ i (λ j h. n j.0 (names.all i j h)) in
      (λ x. a.base x ∙ sym (b.base x), a.quality ∙ sym b.quality))
      (find₁ (shared y z r t s.first s.second) i.0)

  second_base : (j : ReadOffset) → (j.0 / 2 < (z.count + 1) / 2 → base_at u.second z j.0 ≡ base_at w.second z j.0) × (quality_at u.second z j.0 ≡ quality_at w.second z j.0)
  second_base j =
      ⊎_elim
      (λ q.
      let h = names.only (in_read q.0) j q.1 in
      let a = cu.both (in_read q.0) j h in
      let b = cw.both (in_read q.0) j h in
      (λ x. a.base₂ ∙ sym b.base₂, a.quality₂ ∙ sym b.quality₂))
      (λ n.
      let a = cu.alone₂ j (λ i h. n i.0 (names.all i j h)) in
      let b = cw.alone₂ j (λ i h. n i.0 (names.all i j h)) in
      (λ x. a.base x ∙ sym (b.base x), a.quality ∙ sym b.quality))
      (find₂ (shared y z r t s.first s.second) j.0)

  -- both outcomes count over the same list
  same_positions : cu.positions ≡ cw.positions
  same_positions =
      rising_one cu.positions cw.positions cu.named.once cw.named.once
      (λ i j h. cw.named.all (in_read i) (in_read j) (cu.named.only (in_read i) (in_read j) h))
      (λ i j h. cu.named.all (in_read i) (in_read j) (cw.named.only (in_read i) (in_read j) h))

  pub one_outcome : Bytes u.first → Bytes w.first → Bytes u.second → Bytes w.second → u ≡ w
  one_outcome b1 b2 b3 b4 =
      let a : u.first ≡ w.first =
      same_record y u.first w.first (lies_same cu.length₁ lies.first) (cu.length₁ ∙ sym cw.length₁) b1 b2
      (λ i h. (first_base (in_read i)).0 h) (λ i. (first_base (in_read i)).1) (λ k o. cu.outside₁ k o ∙ sym (cw.outside₁ k o)) in
      let b : u.second ≡ w.second =
      same_record z u.second w.second (lies_same cu.length₂ lies.second) (cu.length₂ ∙ sym cw.length₂) b3 b4
      (λ i h. (second_base (in_read i)).0 h) (λ i. (second_base (in_read i)).1) (λ k o. cu.outside₂ k o ∙ sym (cw.outside₂ k o)) in
      let g : u.stats ≡ w.stats =
      cu.counts ∙ (ap (λ (l : List (ℕ × ℕ)). plus s.stats (growths (job v y z) s.first s.second l)) same_positions ∙ sym cw.counts) in
      λ i. record { first = a i; second = b i; stats = g i }
