-- What a rising list of positions leaves at each base: the rule's answer over the bytes at entry, and everything else as it was.
use Prim.Native.Nat.{ℕ, suc, ◌+◌, ◌/◌, ◌≤◌, ◌<◌}
use mathlib.Core.Path.{◌≡◌, refl, sym, ap, subst, ◌∙◌}
use mathlib.Core.List.{List, [], ◌∷◌}
use mathlib.Core.Logic.{inl, inr, ⊎_elim}
use native.Mathlib.Omega.{arith}
use lib.ListN.{length}
use Rattle.fields.specs.declared.Layout.{Layout}
use Rattle.fields.specs.Sound.{Lies}
use Rattle.stats.specs.Counts.{plus}
use Rattle.stats.proofs.CountLaws.{plus_assoc, plus_zero}
use Rattle.strategy.specs.declared.Strategies.{Strategies}
use Rattle.strategy.specs.declared.Treated.{Treated}
use Rattle.bases.specs.Base.{base_at, quality_at}
use Rattle.bases.proofs.BaseLaws.{put_length, lies_same, put_base_same, put_base_other, put_qual_same, put_qual_other}
use Rattle.fields.specs.Among.{Among}
use Rattle.positions.specs.Step.{job, State, ruled, growths, Rising, Becomes}
use Rattle.positions.specs.Treating.{step, steps}
use Rattle.positions.proofs.StepLaws.{ruled_fine}

-- ---- a list of pairs that rises in both, from a and b on, below m and n
unfoldable pub Rises : ℕ → ℕ → ℕ → ℕ → List (ℕ × ℕ) → Type 0
Rises m n a b [] = Unit {0}
Rises m n a b (e ∷ l) = (a ≤ e.0) × (e.0 < m) × (b ≤ e.1) × (e.1 < n) × Rises m n (suc e.0) (suc e.1) l

pub at_low : (m n a b : ℕ) (l : List (ℕ × ℕ)) (i j : ℕ) → Rises m n a b l → Among l i j → (a ≤ i) × (b ≤ j)
unfolding Rises Among
at_low m n a b [] i j r h = absurd h
at_low m n a b (e ∷ l) i j r h =
    ⊎_elim (λ q. omega (arith, r.0, r.2)) (λ q. let t = at_low m n (suc e.0) (suc e.1) l i j r.4 q in omega (arith, t.0, t.1, r.0, r.2)) h

pub rises_rising : (m n a b : ℕ) (l : List (ℕ × ℕ)) → Rises m n a b l → Rising l
unfolding Rises Rising
rises_rising m n a b [] r = tt
rises_rising m n a b (e ∷ l) r = ((λ i j h. at_low m n (suc e.0) (suc e.1) l i j r.4 h), rises_rising m n (suc e.0) (suc e.1) l r.4)

-- two rising lists of the same pairs are one
pub rising_one : (l k : List (ℕ × ℕ)) → Rising l → Rising k → ((i j : ℕ) → Among l i j → Among k i j) → ((i j : ℕ) → Among k i j → Among l i j) → l ≡ k
unfolding Rising Among
rising_one [] [] r q f g = refl
rising_one [] (e ∷ k) r q f g = absurd (g e.0 e.1 (inl (refl, refl)))
rising_one (e ∷ l) [] r q f g = absurd (f e.0 e.1 (inl (refl, refl)))
rising_one (e ∷ l) (d ∷ k) r q f g =
    head
    (λ x.
    rising_one l k r.1 q.1
    (λ i j h. ⊎_elim (λ y. absurd (omega (arith, (r.0 i j h).0, x.0, y.0))) (λ y. y) (f i j (inr h)))
    (λ i j h. ⊎_elim (λ y. absurd (omega (arith, (q.0 i j h).0, x.0, y.0))) (λ y. y) (g i j (inr h))))
    (⊎_elim
    (λ x. (sym x.0, sym x.1))
    (λ x.
    ⊎_elim (λ y. (y.0, y.1)) (λ y. absurd (omega (arith, (q.0 e.0 e.1 x).0, (r.0 d.0 d.1 y).0))) (g d.0 d.1 (inl (refl, refl))))
    (f e.0 e.1 (inl (refl, refl))))
  where
    head : ((e.0 ≡ d.0) × (e.1 ≡ d.1) → l ≡ k) → (e.0 ≡ d.0) × (e.1 ≡ d.1) → e ∷ l ≡ d ∷ k
    head t x = λ i. (x.0 i, x.1 i) ∷ t x i

-- both records have room for their bases
pub record Both (y z : Layout) (s : State) : Type 0 where
  pub first : Lies y (length s.first)
  pub second : Lies z (length s.second)

module _ (v : Strategies) (y z : Layout) where
  pub both_step : (s : State) (i j : ℕ) → Both y z s → Both y z (step (job v y z) s i j)
  unfolding step
  both_step s i j h =
      record { first = lies_same (put_length s.first y i _ _) h.first; second = lies_same (put_length s.second z j _ _) h.second }

  -- a base that is in no pair is as it was
  pub kept₁ : (l : List (ℕ × ℕ)) (a b k : ℕ) (s : State) → Rises y.count z.count a b l → Both y z s → ((j : ℕ) → Among l k j → ⊥)
      → (k / 2 < (y.count + 1) / 2 → base_at (steps (job v y z) l s).first y k ≡ base_at s.first y k) × (quality_at (steps (job v y z) l s).first y k ≡ quality_at s.first y k)
  unfolding steps step Rises Among
  kept₁ [] a b k s r h f = (λ q. refl, refl)
  kept₁ (e ∷ l) a b k s r h f =
      let t = kept₁ l (suc e.0) (suc e.1) k (step (job v y z) s e.0 e.1) r.4 (both_step s e.0 e.1 h) (λ j q. f j (inr q)) in
      let o = ruled (job v y z) s.first s.second e.0 e.1 in
      let ne : k ≡ e.0 → ⊥ = λ q. f e.1 (inl (sym q, refl)) in (
        λ q. t.0 q ∙ put_base_other s.first y e.0 o.base1 o.qual1 h.first r.1 k q ne (ruled_fine (job v y z) s.first s.second e.0 e.1).base1,
        t.1 ∙ put_qual_other s.first y e.0 o.base1 o.qual1 h.first r.1 k ne,
      )

  pub kept₂ : (l : List (ℕ × ℕ)) (a b k : ℕ) (s : State) → Rises y.count z.count a b l → Both y z s → ((i : ℕ) → Among l i k → ⊥)
      → (k / 2 < (z.count + 1) / 2 → base_at (steps (job v y z) l s).second z k ≡ base_at s.second z k) × (quality_at (steps (job v y z) l s).second z k ≡ quality_at s.second z k)
  unfolding steps step Rises Among
  kept₂ [] a b k s r h f = (λ q. refl, refl)
  kept₂ (e ∷ l) a b k s r h f =
      let t = kept₂ l (suc e.0) (suc e.1) k (step (job v y z) s e.0 e.1) r.4 (both_step s e.0 e.1 h) (λ j q. f j (inr q)) in
      let o = ruled (job v y z) s.first s.second e.0 e.1 in
      let ne : k ≡ e.1 → ⊥ = λ q. f e.0 (inl (refl, sym q)) in (
        λ q. t.0 q ∙ put_base_other s.second z e.1 o.base2 o.qual2 h.second r.3 k q ne (ruled_fine (job v y z) s.first s.second e.0 e.1).base2,
        t.1 ∙ put_qual_other s.second z e.1 o.base2 o.qual2 h.second r.3 k ne,
      )

  -- what a pair that a step does not touch is ruled to be stays
  ruled_step : (s : State) (i j m n : ℕ) → Both y z s → i < y.count → j < z.count → m < y.count → n < z.count → (m ≡ i → ⊥) → (n ≡ j → ⊥)
      → ruled (job v y z) (step (job v y z) s i j).first (step (job v y z) s i j).second m n ≡ ruled (job v y z) s.first s.second m n
  unfolding step
  ruled_step s i j m n h hi hj hu hv nu nv =
      let o = ruled (job v y z) s.first s.second i j in
      let f = ruled_fine (job v y z) s.first s.second i j in
      simp (
        put_base_other s.first y i o.base1 o.qual1 h.first hi m (omega arith) nu f.base1,
        put_qual_other s.first y i o.base1 o.qual1 h.first hi m nu,
        put_base_other s.second z j o.base2 o.qual2 h.second hj n (omega arith) nv f.base2,
        put_qual_other s.second z j o.base2 o.qual2 h.second hj n nv,
      )

  at_high : (m n a b : ℕ) (l : List (ℕ × ℕ)) (i j : ℕ) → Rises m n a b l → Among l i j → (i < m) × (j < n)
  unfolding Rises Among
  at_high m n a b [] i j r h = absurd h
  at_high m n a b (e ∷ l) i j r h =
      ⊎_elim (λ q. omega (arith, r.1, r.3)) (λ q. at_high m n (suc e.0) (suc e.1) l i j r.4 q) h

  -- the pair that is treated, where what follows leaves it
  begun : (s t : State) (i j : ℕ) → Both y z s → i < y.count → j < z.count
      → base_at t.first y i ≡ base_at (step (job v y z) s i j).first y i → quality_at t.first y i ≡ quality_at (step (job v y z) s i j).first y i
      → base_at t.second z j ≡ base_at (step (job v y z) s i j).second z j → quality_at t.second z j ≡ quality_at (step (job v y z) s i j).second z j
      → Becomes (job v y z) s t i j
  unfolding step
  begun s t i j h hi hj p1 p2 p3 p4 =
      let o = ruled (job v y z) s.first s.second i j in
      let f = ruled_fine (job v y z) s.first s.second i j in
      record {
        base₁ = p1 ∙ put_base_same s.first y i o.base1 o.qual1 h.first hi f.base1;
        quality₁ = p2 ∙ put_qual_same s.first y i o.base1 o.qual1 h.first hi;
        base₂ = p3 ∙ put_base_same s.second z j o.base2 o.qual2 h.second hj f.base2;
        quality₂ = p4 ∙ put_qual_same s.second z j o.base2 o.qual2 h.second hj;
      }

  -- a pair becomes what the rule says of the bytes at entry
  pub hit : (l : List (ℕ × ℕ)) (a b i j : ℕ) (s : State) → Rises y.count z.count a b l → Both y z s → Among l i j → Becomes (job v y z) s (steps (job v y z) l s) i j
  unfolding steps Rises Among
  hit [] a b i j s r h q = absurd q
  hit (e ∷ l) a b i j s r h q =
      ⊎_elim
      (λ w.
      let k1 = kept₁ l (suc e.0) (suc e.1) e.0 s1 r.4 b1 (λ u t. omega (arith, at_low _ _ _ _ l e.0 u r.4 t)) in
      let k2 = kept₂ l (suc e.0) (suc e.1) e.1 s1 r.4 b1 (λ u t. omega (arith, at_low _ _ _ _ l u e.1 r.4 t)) in
      subst (λ (x : ℕ). Becomes (job v y z) s (steps (job v y z) l s1) x j) w.0
      (subst (λ (x : ℕ). Becomes (job v y z) s (steps (job v y z) l s1) e.0 x) w.1
      (here (k1.0 (omega (arith, r.1))) k1.1 (k2.0 (omega (arith, r.3))) k2.1)))
      (λ w.
      let t = hit l (suc e.0) (suc e.1) i j s1 r.4 b1 w in
      let lo = at_low _ _ _ _ l i j r.4 w in
      let hi = at_high _ _ _ _ l i j r.4 w in
      later t (ruled_step s e.0 e.1 i j h r.1 r.3 hi.0 hi.1 (λ x. omega (arith, lo.0)) (λ x. omega (arith, lo.1))))
      q
    where
      s1 : State
      s1 = step (job v y z) s e.0 e.1

      b1 : Both y z s1
      b1 = both_step s e.0 e.1 h

      here : base_at (steps (job v y z) l s1).first y e.0 ≡ base_at s1.first y e.0 → quality_at (steps (job v y z) l s1).first y e.0 ≡ quality_at s1.first y e.0
          → base_at (steps (job v y z) l s1).second z e.1 ≡ base_at s1.second z e.1 → quality_at (steps (job v y z) l s1).second z e.1 ≡ quality_at s1.second z e.1
          → Becomes (job v y z) s (steps (job v y z) l s1) e.0 e.1
      here p1 p2 p3 p4 = begun s (steps (job v y z) l s1) e.0 e.1 h r.1 r.3 p1 p2 p3 p4

      later : Becomes (job v y z) s1 (steps (job v y z) l s1) i j → ruled (job v y z) s1.first s1.second i j ≡ ruled (job v y z) s.first s.second i j → Becomes (job v y z) s (steps (job v y z) l s1) i j
      later t x =
          record { base₁ = t.base₁ ∙ ap (λ (o : Treated). o.base1) x; quality₁ = t.quality₁ ∙ ap (λ (o : Treated). o.qual1) x; base₂ = t.base₂ ∙ ap (λ (o : Treated). o.base2) x; quality₂ = t.quality₂ ∙ ap (λ (o : Treated). o.qual2) x }

  -- the counts grow by what the rule says of the bytes at entry
  pub counted : (l : List (ℕ × ℕ)) (a b : ℕ) (s₀ s : State) → Rises y.count z.count a b l → Both y z s
      → ((i j : ℕ) → Among l i j → ruled (job v y z) s.first s.second i j ≡ ruled (job v y z) s₀.first s₀.second i j)
      → (steps (job v y z) l s).stats ≡ plus s.stats (growths (job v y z) s₀.first s₀.second l)
  unfolding steps step growths Rises Among
  counted [] a b s₀ s r h f = sym (plus_zero s.stats)
  counted (e ∷ l) a b s₀ s r h f =
      let w = job v y z in
      let later = growths w s₀.first s₀.second l in
      counted l (suc e.0) (suc e.1) s₀ (step w s e.0 e.1) r.4 (both_step s e.0 e.1 h)
      (λ i j q.
      let lo = at_low _ _ _ _ l i j r.4 q in
      let hi = at_high _ _ _ _ l i j r.4 q in
      ruled_step s e.0 e.1 i j h r.1 r.3 hi.0 hi.1 (λ x. omega (arith, lo.0)) (λ x. omega (arith, lo.1)) ∙ f i j (inr q))
      ∙ (plus_assoc s.stats _ later
      ∙ ap (λ (o : Treated). plus s.stats (plus o.growth later)) (f e.0 e.1 (inl (refl, refl))))
