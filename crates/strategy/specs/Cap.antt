-- The cap of an instrument: a number from 2 to 93.
use Rattle.std.specs.Prelude.{ℕ, Bool, ◌||◌, ltb}
use Rattle.strategy.specs.declared.AgreementStrategy.{AgreementStrategy}
use Rattle.strategy.specs.declared.AgreementStrategy.TheVariants as Agree

-- refusal 22
abbrev pub cap_outside : ℕ → Bool
cap_outside cap = ltb cap 2 || ltb 93 cap

-- the most that agreement makes of a quality: the cap under Consensus, and any under the others
abbrev pub most_of : AgreementStrategy → ℕ → ℕ
most_of Agree.Consensus cap = cap
most_of Agree.MaxQual cap = 255
most_of Agree.PassThrough cap = 255
