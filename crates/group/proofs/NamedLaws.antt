-- Two lists that name the pairs of one group are one in another order: so they have the same length, the same number of overlapping
-- pairs, and the same growth.
use Prim.Native.Nat.{ℕ, suc, ◌+◌, ◌<◌, ◌≤◌}
use mathlib.Core.Path.{◌≡◌, refl, sym, ◌∙◌, ap}
use mathlib.Core.List.{List, [], ◌∷◌}
use mathlib.Core.Logic.{◌⊎◌, inl, inr, ⊎_elim}
use native.Mathlib.Omega.{arith}
use borrow.Author.Tests.{eq-eqb}
use lib.Dec.{eqb}
use lib.ListN.{length}
use Rattle.fields.specs.Among.{Among}
use Rattle.fields.proofs.AmongLaws.{here, later, among_cons, among_none}
use Rattle.stats.specs.declared.CorrectionStats.{CorrectionStats}
use Rattle.stats.specs.Counts.{plus}
use Rattle.stats.proofs.CountLaws.{plus_assoc, plus_comm}
use Rattle.strategy.specs.declared.Strategies.{Strategies}
use Rattle.group_mates.specs.Promise.{one, times}
use Rattle.group_verdicts.specs.Judged.{pair_at}
use Rattle.group_applying.specs.Applied.{overlap_count, overlaps_in}
use Rattle.group.specs.Promise.{Paired, pair_growths}

-- ---- a pair taken out of a list
data Taken (e : ℕ × ℕ) : List (ℕ × ℕ) → List (ℕ × ℕ) → Type 0 where
  head : (l : List (ℕ × ℕ)) → Taken e (e ∷ l) l
  behind : (d : ℕ × ℕ) (l r : List (ℕ × ℕ)) → Taken e l r → Taken e (d ∷ l) (d ∷ r)

-- a pair of the list can be taken out
take_out : (l : List (ℕ × ℕ)) (i j : ℕ) → Among l i j → (r : List (ℕ × ℕ)) × Taken (i, j) l r
take_out [] i j a = absurd (among_none i j a)
take_out (d ∷ l) i j a =
    ⊎_elim (λ (z : (i ≡ d.0) × (j ≡ d.1)). (l, rw (z.0, z.1) (head l)))
    (λ (z : Among l i j). let t = take_out l i j z in (d ∷ t.0, behind d l t.0 t.1))
    (among_cons d l i j a)

module _ (e : ℕ × ℕ) where
  -- its records stand there once less
  taken_times : (l r : List (ℕ × ℕ)) → Taken e l r → (k : ℕ) → times l k ≡ one (eqb e.0 k) + one (eqb e.1 k) + times r k
  unfolding times
  taken_times l r (head l₁) k = refl
  taken_times l r (behind d l₁ r₁ t) k = omega (arith, taken_times l₁ r₁ t k)

  -- the others stay
  taken_back : (l r : List (ℕ × ℕ)) → Taken e l r → (i j : ℕ) → Among r i j → Among l i j
  taken_back l r (head l₁) i j a = later e l₁ i j a
  taken_back l r (behind d l₁ r₁ t) i j a =
      ⊎_elim (λ (z : (i ≡ d.0) × (j ≡ d.1)). rw (z.0, z.1) (here d l₁))
      (λ (z : Among r₁ i j). later d l₁ i j (taken_back l₁ r₁ t i j z))
      (among_cons d r₁ i j a)

  taken_or : (l r : List (ℕ × ℕ)) → Taken e l r → (i j : ℕ) → Among l i j → ((i ≡ e.0) × (j ≡ e.1)) ⊎ Among r i j
  taken_or l r (head l₁) i j a = among_cons e l₁ i j a
  taken_or l r (behind d l₁ r₁ t) i j a =
      ⊎_elim (λ (z : (i ≡ d.0) × (j ≡ d.1)). inr (rw (z.0, z.1) (here d r₁)))
      (λ (z : Among l₁ i j). ⊎_elim (λ (y : (i ≡ e.0) × (j ≡ e.1)). inl y) (λ (y : Among r₁ i j). inr (later d r₁ i j y)) (taken_or l₁ r₁ t i j z))
      (among_cons d l₁ i j a)

-- ---- one list in the order of another
data Reordered : List (ℕ × ℕ) → List (ℕ × ℕ) → Type 0 where
  none : Reordered [] []
  taken : (e : ℕ × ℕ) (l l' r' : List (ℕ × ℕ)) → Taken e l' r' → Reordered l r' → Reordered (e ∷ l) l'

-- a pair's first record stands in the list
among_there : (l : List (ℕ × ℕ)) (i j : ℕ) → Among l i j → 0 < times l i
unfolding times
among_there [] i j a = absurd (among_none i j a)
among_there (e ∷ l) i j a =
    ⊎_elim (λ (z : (i ≡ e.0) × (j ≡ e.1)). omega (arith, ap one (eq-eqb e.0 i (sym z.0))))
    (λ (z : Among l i j). omega (arith, among_there l i j z))
    (among_cons e l i j a)

-- lists of the same pairs, each record at most once
reorder : (l l' : List (ℕ × ℕ)) → ((i j : ℕ) → Among l i j → Among l' i j) → ((i j : ℕ) → Among l' i j → Among l i j)
    → ((k : ℕ) → times l k ≤ 1) → ((k : ℕ) → times l' k ≤ 1) → Reordered l l'
unfolding times
reorder [] [] f b o o' = none
reorder [] (d ∷ l') f b o o' = absurd (among_none d.0 d.1 (b d.0 d.1 (here d l')))
reorder (e ∷ l) l' f b o o' =
    let t = take_out l' e.0 e.1 (f e.0 e.1 (here e l)) in
    let r = t.0 in
    taken e l l' r t.1
    (reorder l r (to r t.1) (from r t.1) (λ k. omega (arith, o k)) (λ k. omega (arith, o' k, taken_times e l' r t.1 k)))
  where
    yes_one : (i : ℕ) → i ≡ e.0 → one (eqb e.0 i) ≡ 1
    yes_one i z = ap one (eq-eqb e.0 i (sym z))

    to : (r : List (ℕ × ℕ)) → Taken e l' r → (i j : ℕ) → Among l i j → Among r i j
    to r t i j a =
        ⊎_elim (λ (z : (i ≡ e.0) × (j ≡ e.1)). absurd (omega (arith, o i, yes_one i z.0, among_there l i j a)))
        (λ (z : Among r i j). z)
        (taken_or e l' r t i j (f i j (later e l i j a)))

    from : (r : List (ℕ × ℕ)) → Taken e l' r → (i j : ℕ) → Among r i j → Among l i j
    from r t i j a =
        ⊎_elim (λ (z : (i ≡ e.0) × (j ≡ e.1)). absurd (omega (arith, o' i, taken_times e l' r t i, yes_one i z.0, among_there r i j a)))
        (λ (z : Among l i j). z)
        (among_cons e l i j (b i j (taken_back e l' r t i j a)))

-- ---- what is summed up over a list doesn't depend on its order
module _ {A : Type 0} (f : List (ℕ × ℕ) → A) (put : ℕ × ℕ → A → A)
    (step : (e : ℕ × ℕ) (l : List (ℕ × ℕ)) → f (e ∷ l) ≡ put e (f l))
    (swap : (d e : ℕ × ℕ) (a : A) → put d (put e a) ≡ put e (put d a)) where
  -- the pair that is taken out can be put first
  taken_sum : (e : ℕ × ℕ) (l r : List (ℕ × ℕ)) → Taken e l r → f l ≡ put e (f r)
  taken_sum e l r (head l₁) = step e l₁
  taken_sum e l r (behind d l₁ r₁ t) = step d l₁ ∙ ap (put d) (taken_sum e l₁ r₁ t) ∙ swap d e (f r₁) ∙ ap (put e) (sym (step d r₁))

  -- so a list and its reordering have one sum
  same_sum : (l l' : List (ℕ × ℕ)) → Reordered l l' → f l ≡ f l'
  same_sum l l' none = refl
  same_sum l l' (taken e r l₁ r₁ t q) = step e r ∙ ap (put e) (same_sum r r₁ q) ∙ sym (taken_sum e l₁ r₁ t)

-- ---- two lists that name the pairs of a group
module _ (w : Strategies) (s : List ℕ) (n : ℕ) (l l' : List (ℕ × ℕ)) (p : Paired s n l) (q : Paired s n l') where
  -- are one in another order
  reordered : Reordered l l'
  reordered = reorder l l' (λ i j a. q.all i j (p.only i j a)) (λ i j a. p.all i j (q.only i j a)) p.once.once q.once.once

  -- have the same length
  pub same_length : length l ≡ length l'
  same_length = same_sum length (λ e a. suc a) (λ e r. refl) (λ d e a. refl) l l' reordered

  -- have the same number of overlapping pairs
  pub same_overlaps : overlaps_in w s l ≡ overlaps_in w s l'
  unfolding overlaps_in
  same_overlaps = same_sum (overlaps_in w s) (λ e a. weight e + a) (λ e r. refl) (λ d e a. omega arith) l l' reordered
    where
      weight : ℕ × ℕ → ℕ
      weight e = overlap_count (pair_at w s e.0 e.1).answer

  -- and have the same growth
  pub same_growths : pair_growths w s l ≡ pair_growths w s l'
  unfolding pair_growths
  same_growths = same_sum (pair_growths w s) (λ e a. plus (growth e) a) (λ e r. refl) swap l l' reordered
    where
      growth : ℕ × ℕ → CorrectionStats
      growth e = (pair_at w s e.0 e.1).after.stats

      swap : (d e : ℕ × ℕ) (a : CorrectionStats) → plus (growth d) (plus (growth e) a) ≡ plus (growth e) (plus (growth d) a)
      swap d e a =
          let x = growth d in
          let y = growth e in
          sym (plus_assoc x y a) ∙ ap (λ (z : CorrectionStats). plus z a) (plus_comm x y) ∙ plus_assoc y x a
