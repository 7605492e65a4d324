-- With the cap 93 the pair call is the one of document 01, which knows no cap.
use Rattle.std.specs.Prelude.{Result, Ok, Err}
use Rattle.refusal.specs.declared.Refusal.{Refusal}
use Rattle.pair_judgement.specs.declared.Untreated.TheVariants as Untreateds
use Prim.Native.Nat.{ℕ}
use mathlib.Core.Path.{◌≡◌, refl, ap, ◌∙◌}
use mathlib.Core.Bool.{Bool, true, false, cond}
use mathlib.Core.List.{List, [], ◌∷◌}
use Rattle.refusal.specs.declared.Refusal.TheVariants.{Count}
use Rattle.fields.specs.declared.Layout.{Layout}
use Rattle.fields.specs.declared.RefPos.{RefPos}
use Rattle.fields.specs.Check.{check_of}
use Rattle.bases.specs.Base.{base_at, quality_at}
use Rattle.stats.specs.Counts.{full}
use Rattle.strategy.specs.declared.AgreementStrategy.{AgreementStrategy}
use Rattle.strategy.specs.declared.AgreementStrategy.TheVariants as Agree
use Rattle.strategy.specs.declared.DisagreementStrategy.{DisagreementStrategy}
use Rattle.strategy.specs.declared.Strategies.{Strategies}
use Rattle.strategy.specs.Rule.{qual_by, treated}
use Rattle.positions.specs.Step.{State, job}
use Rattle.positions.specs.Treating.{step, steps}
use Rattle.pair_merge.specs.Shared.{shared, merged}
use Rattle.pair_judgement.specs.Judgement.{judged_of, Judged}
use Rattle.pair_judgement.specs.Reason.{lengthless}
use Rattle.pair.specs.declared.Answer.TheVariants as Answers
use Rattle.pair.specs.Pair.{Outcome, outcome, answer_of, on_reference, on_judged, on_good, records_of, pair_of}
use Rattle.pair.specs.Uncapped.{uncapped_of}
use Rattle.pair.specs.Uncapped as Uncapped

module _ (m : AgreementStrategy) (k : DisagreementStrategy) where
  -- both strategies, with the cap 93
  abbrev pub fully : Strategies
  fully = record { agreement = m; disagreement = k; cap = 93 }

  qual_same : (x : AgreementStrategy) (a b : ℕ) → qual_by x 93 a b ≡ Uncapped.qual x a b
  qual_same Agree.Consensus a b = refl
  qual_same Agree.MaxQual a b = refl
  qual_same Agree.PassThrough a b = refl

  treated_same : (x a y b : ℕ) → treated fully x a y b ≡ Uncapped.treated m k x a y b
  unfolding treated Uncapped.treated
  treated_same x a y b = rw (qual_same m a b, qual_same m b a)

  module _ (y z : Layout) where
    step_same : (s : State) (i j : ℕ) → step (job fully y z) s i j ≡ Uncapped.step m k y z s i j
    unfolding step
    step_same s i j =
        ap (Uncapped.wrote y z s i j) (treated_same (base_at s.first y i) (quality_at s.first y i) (base_at s.second z j) (quality_at s.second z j))

    steps_same : (l : List (ℕ × ℕ)) (s : State) → steps (job fully y z) l s ≡ Uncapped.steps m k y z l s
    unfolding steps Uncapped.steps
    steps_same [] s = refl
    steps_same (e ∷ l) s = ap (steps (job fully y z) l) (step_same s e.0 e.1) ∙ steps_same l (Uncapped.step m k y z s e.0 e.1)

    reference_same : (s : State) (p q : RefPos) (t : Bool) → on_reference fully y z s p q t ≡ Uncapped.on_reference m k y z s p q t
    unfolding merged
    reference_same s p q true = refl
    reference_same s p q false =
        let l = shared y z p q s.first s.second in
        ap (outcome (answer_of l)) (steps_same l s)

    judged_same : (s : State) (j : Judged) → on_judged fully y z s j ≡ Uncapped.on_judged m k y z s j
    judged_same s (Err (Untreateds.Refused r)) = refl
    judged_same s (Err (Untreateds.Apart r)) = refl
    judged_same s (Ok (p, q)) = reference_same s p.start q.start (lengthless p q)

  good_same : (c : Result Layout Refusal) (s : State) (f g : Layout → Outcome) → ((y : Layout) → f y ≡ g y) → on_good c s f ≡ on_good c s g
  good_same (Ok y) s f g h = h y
  good_same (Err r) s f g h = refl

  records_same : (s : State) → records_of fully s 1 2 ≡ Uncapped.records_of m k s
  unfolding records_of
  records_same s =
      good_same (check_of s.first 1) s _ _
      (λ y. good_same (check_of s.second 2) s _ _ (λ z. judged_same y z s (judged_of y z s.first s.second 1 2)))

  -- the theorem: for every two records and counts, the pair call with the cap 93 gives what it gave without a cap
  pub full_cap : (s : State) → pair_of fully s ≡ uncapped_of m k s
  unfolding pair_of uncapped_of
  full_cap s = ap (cond (full s.stats) (outcome (Answers.Refused Count) s)) (records_same s)
