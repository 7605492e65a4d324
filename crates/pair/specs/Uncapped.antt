-- The pair call as document 01 has it, which knows no cap: bases that agree under Consensus get the smaller of a + b and 93. Each definition
-- is that of the pair call without the cap; it is here so that a law can say that the pair call with the cap 93 is this one.
use Rattle.pair_judgement.specs.declared.Untreated.TheVariants as Untreateds
use Rattle.std.specs.Prelude.{ℕ, ◌+◌, min, max, Bool, cond, ◌||◌, List, [], ◌∷◌, eqb, Ok, Err}
use Rattle.refusal.specs.declared.Refusal.TheVariants.{Count}
use Rattle.fields.specs.declared.Layout.{Layout}
use Rattle.fields.specs.declared.RefPos.{RefPos}
use Rattle.fields.specs.Check.{check_of}
use Rattle.bases.specs.Code.{N}
use Rattle.bases.specs.Base.{base_at, quality_at}
use Rattle.bases.specs.Written.{with_seen}
use Rattle.stats.specs.Counts.{zeroed, plus, full}
use Rattle.strategy.specs.declared.AgreementStrategy.{AgreementStrategy}
use Rattle.strategy.specs.declared.AgreementStrategy.TheVariants as Agree
use Rattle.strategy.specs.declared.DisagreementStrategy.{DisagreementStrategy}
use Rattle.strategy.specs.declared.Treated.{Treated}
use Rattle.strategy.specs.Rule.{out, agreed_to, differed}
use Rattle.positions.specs.Step.{State, state}
use Rattle.pair_merge.specs.Shared.{shared}
use Rattle.pair_judgement.specs.declared.Reason.TheVariants.{NoReferenceLength}
use Rattle.pair_judgement.specs.Judgement.{judged_of, Judged}
use Rattle.pair_judgement.specs.Reason.{lengthless}
use Rattle.pair.specs.declared.Answer.TheVariants as Answers
use Rattle.pair.specs.Pair.{Outcome, outcome, answer_of, on_good}

-- the quality that a base of quality a gets beside an equal base of quality b
abbrev pub qual : AgreementStrategy → ℕ → ℕ → ℕ
qual Agree.Consensus a b = min (a + b) 93
qual Agree.MaxQual a b = max a b
qual Agree.PassThrough a b = a

-- what a shared position becomes
unfoldable pub treated : AgreementStrategy → DisagreementStrategy → ℕ → ℕ → ℕ → ℕ → Treated
treated m k x a y b = cond (eqb x N || eqb y N) (out x a y b zeroed) (cond (eqb x y) (agreed_to x a b (qual m a b) (qual m b a)) (differed k x a y b))

abbrev pub wrote : Layout → Layout → State → ℕ → ℕ → Treated → State
wrote y z s i j o = state (with_seen s.first y i o.base1 o.qual1) (with_seen s.second z j o.base2 o.qual2) (plus s.stats o.growth)

-- one position, base i of the first record and base j of the second; and a list of them
abbrev pub step : AgreementStrategy → DisagreementStrategy → Layout → Layout → State → ℕ → ℕ → State
step m k y z s i j = wrote y z s i j (treated m k (base_at s.first y i) (quality_at s.first y i) (base_at s.second z j) (quality_at s.second z j))

unfoldable pub steps : AgreementStrategy → DisagreementStrategy → Layout → Layout → List (ℕ × ℕ) → State → State
steps m k y z [] s = s
steps m k y z (e ∷ l) s = steps m k y z l (step m k y z s e.0 e.1)

abbrev pub on_reference : AgreementStrategy → DisagreementStrategy → Layout → Layout → State → RefPos → RefPos → Bool → Outcome
on_reference m k y z s p q none =
    cond none (outcome (Answers.NoOverlap NoReferenceLength) s)
    (outcome (answer_of (shared y z p q s.first s.second)) (steps m k y z (shared y z p q s.first s.second) s))

abbrev pub on_judged : AgreementStrategy → DisagreementStrategy → Layout → Layout → State → Judged → Outcome
on_judged m k y z s (Err (Untreateds.Refused r)) = outcome (Answers.Refused r) s
on_judged m k y z s (Err (Untreateds.Apart r)) = outcome (Answers.NoOverlap r) s
on_judged m k y z s (Ok (p, q)) = on_reference m k y z s p.start q.start (lengthless p q)

abbrev pub records_of : AgreementStrategy → DisagreementStrategy → State → Outcome
records_of m k s = on_good (check_of s.first 1) s (λ y. on_good (check_of s.second 2) s (λ z. on_judged m k y z s (judged_of y z s.first s.second 1 2)))

unfoldable pub uncapped_of : AgreementStrategy → DisagreementStrategy → State → Outcome
uncapped_of m k s = cond (full s.stats) (outcome (Answers.Refused Count) s) (records_of m k s)
