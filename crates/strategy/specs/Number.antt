-- The strategies and the cap by their numbers: refusal 10 where a strategy's is not 0 to 2, then 22 where the cap is not 2 to 93.
use Rattle.strategy.specs.declared.Strategies.{Strategies}
use Rattle.refusal.specs.declared.Refusal.{Refusal}
use Rattle.std.specs.Prelude.{ℕ, cond, [], ◌∷◌, get_or, Result, Ok, Err}
use Rattle.std.proofs.Math.Option.{Option, none, some}
use Rattle.refusal.specs.declared.Refusal.TheVariants.{Strategy, Cap}
use Rattle.strategy.specs.declared.AgreementStrategy.{AgreementStrategy}
use Rattle.strategy.specs.declared.AgreementStrategy.TheVariants as Agree
use Rattle.strategy.specs.declared.DisagreementStrategy.{DisagreementStrategy}
use Rattle.strategy.specs.declared.DisagreementStrategy.TheVariants as Differ
use Rattle.strategy.specs.Cap.{cap_outside}

abbrev pub agreement_of : ℕ → Option AgreementStrategy
agreement_of n = get_or (some Agree.Consensus ∷ some Agree.MaxQual ∷ some Agree.PassThrough ∷ []) n none

abbrev pub disagreement_of : ℕ → Option DisagreementStrategy
disagreement_of n = get_or (some Differ.Consensus ∷ some Differ.MaskBoth ∷ some Differ.MaskLowerQual ∷ []) n none

-- what a number that stands for x is answered; refusal 10 where it stands for none
abbrev pub named : {X : Type 0} → Option X → Result X Refusal
named none = Err Strategy
named (some x) = Ok x

abbrev pub both : Option AgreementStrategy → Option DisagreementStrategy → ℕ → Result Strategies Refusal
both none k cap = Err Strategy
both (some m) none cap = Err Strategy
both (some m) (some k) cap = cond (cap_outside cap) (Err Cap) (Ok (record { agreement = m; disagreement = k; cap = cap }))

unfoldable pub numbered_of : ℕ → ℕ → ℕ → Result Strategies Refusal
numbered_of agreement disagreement cap = both (agreement_of agreement) (disagreement_of disagreement) cap
