-- The cap binds agreement under Consensus, and nothing else.
use Prim.Native.Nat.{ℕ, ◌+◌, min}
use mathlib.Core.Path.{◌≡◌, refl}
use native.Mathlib.Omega.{arith}
use borrow.Author.Tests.{eq-eqb, ne_eqb}
use Rattle.bases.specs.Code.{N}
use Rattle.strategy.specs.declared.AgreementStrategy.{AgreementStrategy}
use Rattle.strategy.specs.declared.AgreementStrategy.TheVariants as Agree
use Rattle.strategy.specs.declared.DisagreementStrategy.{DisagreementStrategy}
use Rattle.strategy.specs.declared.Strategies.{Strategies}
use Rattle.strategy.specs.Rule.{treated}

module _ (m : AgreementStrategy) (k : DisagreementStrategy) where
  abbrev pub capped_at : ℕ → Strategies
  capped_at cap = record { agreement = m; disagreement = k; cap = cap }

-- two called bases that agree under Consensus get the smaller of a + b and the cap, so neither is over it
pub cap_binds : (k : DisagreementStrategy) (cap x a b : ℕ) → (x ≡ N → ⊥)
    → ((treated (capped_at Agree.Consensus k cap) x a x b).qual1 ≡ min (a + b) cap) × ((treated (capped_at Agree.Consensus k cap) x a x b).qual2 ≡ min (a + b) cap)
unfolding treated
cap_binds k cap x a b n = (rw (ne_eqb x N n, eq-eqb x x refl), rw (ne_eqb x N n, eq-eqb x x refl) (omega arith))

-- elsewhere every cap gives the same: under another agreement, and where the bases differ
pub cap_elsewhere : (m : AgreementStrategy) (k : DisagreementStrategy) (c d x a y b : ℕ) → ((m ≡ Agree.Consensus) × (x ≡ y) → ⊥)
    → treated (capped_at m k c) x a y b ≡ treated (capped_at m k d) x a y b
unfolding treated
cap_elsewhere Agree.Consensus k c d x a y b h = rw (ne_eqb x y (λ e. h (refl, e)))
cap_elsewhere Agree.MaxQual k c d x a y b h = refl
cap_elsewhere Agree.PassThrough k c d x a y b h = refl
