-- A number above 2 stands for no strategy, and one outside of 2 to 93 for no cap.
use Rattle.std.specs.Prelude.{Ok, Err}
use Prim.Native.Nat.{ℕ, ◌<◌, ◌≤◌}
use mathlib.Core.Path.{◌≡◌, refl, ap, ◌∙◌}
use mathlib.Core.Bool.{Bool, true, false, cond}
use mathlib.Core.Logic.{◌⊎◌, inl, inr, ⊎_elim}
use mathlib.Core.Option.{Option, none, some}
use native.Mathlib.Omega.{arith}
use borrow.Author.Tests.{lt-ltb, le-ltb}
use Rattle.refusal.specs.declared.Refusal.{Refusal}
use Rattle.refusal.specs.declared.Refusal.TheVariants.{Strategy, Cap}
use Rattle.strategy.specs.declared.AgreementStrategy.{AgreementStrategy}
use Rattle.strategy.specs.declared.DisagreementStrategy.{DisagreementStrategy}
use Rattle.strategy.specs.declared.Strategies.{Strategies}
use Rattle.strategy.specs.Cap.{cap_outside}
use Rattle.strategy.specs.Number.{agreement_of, disagreement_of, named, both, numbered_of}

no_second : (m : Option AgreementStrategy) (cap : ℕ) → both m none cap ≡ Err Strategy
no_second none cap = refl
no_second (some m) cap = refl

-- a cap above the scale is outside
pub cap_low : (cap : ℕ) → cap < 2 → cap_outside cap ≡ true
cap_low cap h = rw (lt-ltb cap 2 h)

pub cap_high : (cap : ℕ) → 93 < cap → cap_outside cap ≡ true
cap_high cap h = rw (le-ltb cap 2 (omega arith), lt-ltb 93 cap h)

pub cap_inside : (cap : ℕ) → 2 ≤ cap → cap ≤ 93 → cap_outside cap ≡ false
cap_inside cap h k = rw (le-ltb cap 2 h, le-ltb 93 cap k)

-- ---- the numbers, as the code asks them
-- a number that is answered stands for what it is answered
pub stands : {X : Type 0} (o : Option X) (x : X) → Ok x ≡ named o → some x ≡ o
stands none x e = let z : ◌≡◌ {A = ℕ} 0 1 = cc in absurd (omega arith)
stands (some y) x e = cc

refused : {X : Type 0} (o : Option X) (r : Refusal) → Err r ≡ named o → (r ≡ Strategy) × (o ≡ none)
refused none r e = (cc, refl)
refused (some y) r e = let z : ◌≡◌ {A = ℕ} 0 1 = cc in absurd (omega arith)

module _ (a d cap : ℕ) where
  pub first_none : (r : Refusal) → Err r ≡ named (agreement_of a) → Err r ≡ numbered_of a d cap
  unfolding numbered_of
  first_none r e = let h = refused (agreement_of a) r e in rw (h.0, h.1)

  pub second_none : (r : Refusal) → Err r ≡ named (disagreement_of d) → Err r ≡ numbered_of a d cap
  unfolding numbered_of
  second_none r e = let h = refused (disagreement_of d) r e in rw (h.0, h.1, no_second (agreement_of a) cap)

  module _ (m : AgreementStrategy) (k : DisagreementStrategy) (em : Ok m ≡ named (agreement_of a)) (ek : Ok k ≡ named (disagreement_of d)) where
    pub cap_none : cap_outside cap ≡ true → Err Cap ≡ numbered_of a d cap
    unfolding numbered_of
    cap_none h = rw (← stands (agreement_of a) m em, ← stands (disagreement_of d) k ek, h)

    pub both_are : cap_outside cap ≡ false → Ok (record { agreement = m; disagreement = k; cap = cap }) ≡ numbered_of a d cap
    unfolding numbered_of
    both_are h = rw (← stands (agreement_of a) m em, ← stands (disagreement_of d) k ek, h)

-- ---- what the numbers give
module _ (cap : ℕ) (r : Refusal) (w : Strategies) where
  at_cap : (t : Bool) → cap_outside cap ≡ t → cond t (Err Cap) (Ok w) ≡ Err r → (r ≡ Cap) × (cap_outside cap ≡ true)
  at_cap true e f = (cc, e)
  at_cap false e f = let z : ◌≡◌ {A = ℕ} 0 1 = cc in absurd (omega arith)

-- a refusal is that of a strategy number, or of the cap where it is outside
pub refused_is : (a d cap : ℕ) (r : Refusal) → numbered_of a d cap ≡ Err r → (r ≡ Strategy) ⊎ ((r ≡ Cap) × (cap_outside cap ≡ true))
unfolding numbered_of
refused_is a d cap r e = go (agreement_of a) (disagreement_of d) e
  where
    go : (m : Option AgreementStrategy) (k : Option DisagreementStrategy) → both m k cap ≡ Err r → (r ≡ Strategy) ⊎ ((r ≡ Cap) × (cap_outside cap ≡ true))
    go none k f = inl cc
    go (some m) none f = inl cc
    go (some m) (some k) f = inr (at_cap cap r (record { agreement = m; disagreement = k; cap = cap }) (cap_outside cap) refl f)

-- with the full cap it is that of a strategy number
pub full_refused : (a d : ℕ) (r : Refusal) → numbered_of a d 93 ≡ Err r → r ≡ Strategy
full_refused a d r e = ⊎_elim (λ (h : r ≡ Strategy). h) (λ (h : (r ≡ Cap) × (cap_outside 93 ≡ true)). let z : ◌≡◌ {A = ℕ} 0 1 = ap (λ (t : Bool). cond t 1 0) h.1 in absurd (omega arith)) (refused_is a d 93 r e)

-- the cap of strategies by number is the one given, and inside
pub are_capped : (a d cap : ℕ) (w : Strategies) → numbered_of a d cap ≡ Ok w → (w.cap ≡ cap) × (cap_outside w.cap ≡ false)
unfolding numbered_of
are_capped a d cap w e = go (agreement_of a) (disagreement_of d) e
  where
    inside : (m : AgreementStrategy) (k : DisagreementStrategy) (t : Bool) → cap_outside cap ≡ t
        → cond t (Err Cap) (Ok (record { agreement = m; disagreement = k; cap = cap })) ≡ Ok w → (w.cap ≡ cap) × (cap_outside w.cap ≡ false)
    inside m k true h f = let z : ◌≡◌ {A = ℕ} 0 1 = cc in absurd (omega arith)
    inside m k false h f = let q : w.cap ≡ cap = cc in (q, ap cap_outside q ∙ h)

    go : (m : Option AgreementStrategy) (k : Option DisagreementStrategy) → both m k cap ≡ Ok w → (w.cap ≡ cap) × (cap_outside w.cap ≡ false)
    go none k f = let z : ◌≡◌ {A = ℕ} 0 1 = cc in absurd (omega arith)
    go (some m) none f = let z : ◌≡◌ {A = ℕ} 0 1 = cc in absurd (omega arith)
    go (some m) (some k) f = inside m k (cap_outside cap) refl f
