-- Laws of the list of pairs by position.
use Prim.Native.Nat.{ℕ, zero, suc, ◌+◌, ◌-◌, ◌≤◌, ◌<◌}
use mathlib.Core.Path.{◌≡◌, refl, sym, ap, ◌∙◌}
use mathlib.Core.List.{List, [], ◌∷◌, ◌++◌}
use mathlib.Core.Option.{Option, none, some}
use mathlib.Core.Logic.{◌⊎◌, inl, inr, ⊎_elim}
use native.Mathlib.Omega.{arith}
use native.Mathlib.Nat.{zero-add, add-zero, suc-add}
use Rattle.fields.proofs.Arith.{lt_or_le}
use Rattle.fields.specs.Among.{Among}
use Rattle.positions.specs.Treating.{row}
use Rattle.positions.proofs.PointLaws.{Rises}
use Rattle.pair_merge.specs.Shared.{pair_cons, pairs}

pub pairs_skip : (f g : ℕ → Option ℕ) (p d n : ℕ) → ((t : ℕ) → p ≤ t → t < p + d → (f t ≡ none) ⊎ (g t ≡ none)) → pairs f g p (d + n) ≡ pairs f g (p + d) n
unfolding pairs
pairs_skip f g p zero n h = rw (zero-add, add-zero)
pairs_skip f g p (suc d) n h =
    rw (suc-add d n)
    (skip_one (f p) (g p) _ (h p (omega arith) (omega arith))
    ∙ (pairs_skip f g (suc p) d n (λ t a b. h t (omega arith) (omega arith)) ∙ ap (λ (x : ℕ). pairs f g x n) (omega arith)))
  where
    skip_one : (x y : Option ℕ) (l : List (ℕ × ℕ)) → (x ≡ none) ⊎ (y ≡ none) → pair_cons x y l ≡ l
    skip_one none y l e = refl
    skip_one (some i) none l e = refl
    skip_one (some i) (some j) l e =
        ⊎_elim (λ q. let z : ◌≡◌ {A = ℕ} 0 1 = cc in absurd (omega arith))
        (λ q. let z : ◌≡◌ {A = ℕ} 0 1 = cc in absurd (omega arith))
        e

pub pairs_run : (f g : ℕ → Option ℕ) (p i j k n : ℕ) → ((t : ℕ) → t < k → f (p + t) ≡ some (i + t)) → ((t : ℕ) → t < k → g (p + t) ≡ some (j + t))
    → pairs f g p (k + n) ≡ row i j k ++ pairs f g (p + k) n
unfolding pairs row
pairs_run f g p i j zero n hf hg = rw (zero-add, add-zero)
pairs_run f g p i j (suc k) n hf hg =
    let e1 : f p ≡ some i = ap f (omega arith) ∙ (hf 0 (omega arith) ∙ ap some (omega arith)) in
    let e2 : g p ≡ some j = ap g (omega arith) ∙ (hg 0 (omega arith) ∙ ap some (omega arith)) in
    rw (suc-add k n)
    (rw (e1, e2)
    (ap (λ (l : List (ℕ × ℕ)). (i, j) ∷ l)
    (pairs_run f g (suc p) (suc i) (suc j) k n
    (λ t a. ap f (omega arith) ∙ (hf (suc t) (omega arith) ∙ ap some (omega arith)))
    (λ t a. ap g (omega arith) ∙ (hg (suc t) (omega arith) ∙ ap some (omega arith)))
    ∙ ap (λ (x : ℕ). row (suc i) (suc j) k ++ pairs f g x n) (omega arith))))

-- positions at which one of the two has no base can be passed over
pub skip_to : (f g : ℕ → Option ℕ) (e p p' : ℕ) → p ≤ p' → ((t : ℕ) → p ≤ t → t < p' → (f t ≡ none) ⊎ (g t ≡ none)) → pairs f g p (e - p) ≡ pairs f g p' (e - p')
unfolding pairs
skip_to f g e p p' h k =
    ⊎_elim
    (λ l.
    let x : e - p ≡ (e - p) + 0 = omega arith in
    let x' : e - p' ≡ 0 = omega arith in
    (ap (λ (n : ℕ). pairs f g p n) x ∙ pairs_skip f g p (e - p) 0 (λ t a b. k t a (omega arith))) ∙ sym (ap (λ (n : ℕ). pairs f g p' n) x'))
    (λ l.
    let x : e - p ≡ (p' - p) + (e - p') = omega arith in
    let x' : p + (p' - p) ≡ p' = omega arith in
    ap (λ (n : ℕ). pairs f g p n) x ∙ (pairs_skip f g p (p' - p) (e - p') (λ t a b. k t a (omega arith)) ∙ ap (λ (q : ℕ). pairs f g q (e - p')) x'))
    (lt_or_le e p')

-- none is among the n positions from p on
pub none_in : (f g : ℕ → Option ℕ) (p n : ℕ) → ((t : ℕ) → p ≤ t → t < p + n → (f t ≡ none) ⊎ (g t ≡ none)) → pairs f g p n ≡ []
unfolding pairs
none_in f g p n h = ap (λ (m : ℕ). pairs f g p m) (sym (add-zero n)) ∙ pairs_skip f g p n 0 h

-- none is left
pub none_left : (f g : ℕ → Option ℕ) (p n : ℕ) → ((t : ℕ) → p ≤ t → (f t ≡ none) ⊎ (g t ≡ none)) → pairs f g p n ≡ []
none_left f g p n h = none_in f g p n (λ t a b. h t a)

-- k positions of a row
pub take_row : (f g : ℕ → Option ℕ) (e p i j k : ℕ) → p + k ≤ e → ((t : ℕ) → t < k → f (p + t) ≡ some (i + t)) → ((t : ℕ) → t < k → g (p + t) ≡ some (j + t))
    → pairs f g p (e - p) ≡ row i j k ++ pairs f g (p + k) (e - (p + k))
take_row f g e p i j k h hf hg =
    let x : e - p ≡ k + (e - (p + k)) = omega arith in
    ap (λ (n : ℕ). pairs f g p n) x ∙ pairs_run f g p i j k (e - (p + k)) hf hg

-- a position of the window at which both have a base
pub record Meets (f g : ℕ → Option ℕ) (p n i j : ℕ) : Type 0 where
  pub u : ℕ
  pub low : p ≤ u
  pub high : u < p + n
  pub first : f u ≡ some i
  pub second : g u ≡ some j

cons_at : (x y : Option ℕ) (l : List (ℕ × ℕ)) (i j : ℕ) → Among (pair_cons x y l) i j → ((x ≡ some i) × (y ≡ some j)) ⊎ Among l i j
unfolding Among
cons_at none y l i j h = inr h
cons_at (some a) none l i j h = inr h
cons_at (some a) (some b) l i j h = ⊎_elim (λ q. inl (ap some q.0, ap some q.1)) (λ q. inr q) h

at_cons : (x y : Option ℕ) (l : List (ℕ × ℕ)) (i j : ℕ) → ((x ≡ some i) × (y ≡ some j)) ⊎ Among l i j → Among (pair_cons x y l) i j
unfolding Among
at_cons none y l i j h = ⊎_elim (λ q. let z : ◌≡◌ {A = ℕ} 0 1 = cc q.0 in absurd (omega arith)) (λ q. q) h
at_cons (some a) none l i j h = ⊎_elim (λ q. let z : ◌≡◌ {A = ℕ} 0 1 = cc q.1 in absurd (omega arith)) (λ q. q) h
at_cons (some a) (some b) l i j h = ⊎_elim (λ q. inl ((cc q.0), (cc q.1))) (λ q. inr q) h

pub pairs_meet : (f g : ℕ → Option ℕ) (p n i j : ℕ) → Among (pairs f g p n) i j → Meets f g p n i j
unfolding pairs Among
pairs_meet f g p zero i j h = absurd h
pairs_meet f g p (suc n) i j h =
    ⊎_elim (λ q. record { u = p; low = omega arith; high = omega arith; first = q.0; second = q.1 })
    (λ q. let m = pairs_meet f g (suc p) n i j q in record { u = m.u; low = omega (arith, m.low); high = omega (arith, m.high); first = m.first; second = m.second })
    (cons_at (f p) (g p) (pairs f g (suc p) n) i j h)

pub meet_pairs : (f g : ℕ → Option ℕ) (p n i j : ℕ) → Meets f g p n i j → Among (pairs f g p n) i j
unfolding pairs
meet_pairs f g p zero i j m = absurd (omega (arith, m.low, m.high))
meet_pairs f g p (suc n) i j m =
    at_cons (f p) (g p) (pairs f g (suc p) n) i j
    (⊎_elim
    (λ h. inr (meet_pairs f g (suc p) n i j (record { u = m.u; low = h; high = omega (arith, m.high); first = m.first; second = m.second })))
    (λ h.
    let e : m.u ≡ p = omega (arith, m.low) in
    inl (ap f (sym e) ∙ m.first, ap g (sym e) ∙ m.second))
    (lt_or_le p m.u))

-- the list rises where both functions do
rises_less : (m n a b c d : ℕ) (l : List (ℕ × ℕ)) → a ≤ c → b ≤ d → Rises m n c d l → Rises m n a b l
unfolding Rises
rises_less m n a b c d [] h k r = tt
rises_less m n a b c d (e ∷ l) h k r = (omega (arith, r.0), r.1, omega (arith, r.2), r.3, r.4)

module _ (f g : ℕ → Option ℕ) (m n : ℕ) (fr : (p i : ℕ) → f p ≡ some i → i < m) (gr : (p i : ℕ) → g p ≡ some i → i < n)
    (fm : (p s i j : ℕ) → f p ≡ some i → f s ≡ some j → p < s → i < j) (gm : (p s i j : ℕ) → g p ≡ some i → g s ≡ some j → p < s → i < j) where
  pub pairs_rise : (p k a b : ℕ) → ((u i : ℕ) → p ≤ u → f u ≡ some i → a ≤ i) → ((u i : ℕ) → p ≤ u → g u ≡ some i → b ≤ i) → Rises m n a b (pairs f g p k)
  unfolding pairs Rises
  pairs_rise p zero a b ha hb = tt
  pairs_rise p (suc k) a b ha hb = go (f p) refl (g p) refl (λ c d hc hd. pairs_rise (suc p) k c d hc hd)
    where
      go : (x : Option ℕ) → f p ≡ x → (y : Option ℕ) → g p ≡ y
          → ((c d : ℕ) → ((u i : ℕ) → suc p ≤ u → f u ≡ some i → c ≤ i) → ((u i : ℕ) → suc p ≤ u → g u ≡ some i → d ≤ i) → Rises m n c d (pairs f g (suc p) k))
          → Rises m n a b (pair_cons x y (pairs f g (suc p) k))
      go none e y e' ih = ih a b (λ u i l q. ha u i (omega arith) q) (λ u i l q. hb u i (omega arith) q)
      go (some i) e none e' ih = ih a b (λ u i l q. ha u i (omega arith) q) (λ u i l q. hb u i (omega arith) q)
      go (some i) e (some j) e' ih = (
        ha p i (omega arith) e,
        fr p i e,
        hb p j (omega arith) e',
        gr p j e',
        ih (suc i) (suc j) (λ u v l q. fm p u i v e q l) (λ u v l q. gm p u j v e' q l),
      )
