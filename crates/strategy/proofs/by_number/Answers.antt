-- `strategy::by_number` meets its contract. Assumes nothing.
use Rattle.std.specs.Prelude.{Err}
use mathlib.Core.Path.{◌≡◌, sym, ◌∙◌}
use native.Mathlib.Omega.{arith}
use borrow.Author.Rules.{rules}
use Rattle.strategy.proofs.NumberLaws.{first_none, second_none, cap_low, cap_high, cap_inside, cap_none, both_are}
use Rattle.strategy.proofs.by_number.Goals as goal

pub returns-in_err-agreement : goal.returns-in_err-agreement
returns-in_err-agreement c =
    let args = c.args in
    let e : c.from_residual.result ≡ Err c.in_err-agreement.field-0.0 = search rules in
    e ∙ first_none args.agreement args.disagreement args.cap _ (sym c.in_err-agreement.was ∙ c.try_from.ensures)

pub returns-in_err-disagreement : goal.returns-in_err-disagreement
returns-in_err-disagreement c =
    let args = c.args in
    let e : c.from_residual-in_err-disagreement.result ≡ Err c.in_err-disagreement.field-0.0 = search rules in
    e ∙ second_none args.agreement args.disagreement args.cap _ (sym c.in_err-disagreement.was ∙ c.try_from-2.ensures)

pub returns-then-cap-from : goal.returns-then-cap-from
returns-then-cap-from c =
    let args = c.args in
    cap_none args.agreement args.disagreement args.cap _ _ (sym c.in_ok-agreement.was ∙ c.try_from.ensures)
    (sym c.in_ok-disagreement.was ∙ c.try_from-2.ensures) (cap_low args.cap (omega (arith, c.from.ensures)))

pub returns-then-from-cap : goal.returns-then-from-cap
returns-then-from-cap c =
    let args = c.args in
    cap_none args.agreement args.disagreement args.cap _ _ (sym c.in_ok-agreement.was ∙ c.try_from.ensures)
    (sym c.in_ok-disagreement.was ∙ c.try_from-2.ensures) (cap_high args.cap (omega arith))

pub returns : goal.returns
returns c =
    let args = c.args in
    both_are args.agreement args.disagreement args.cap _ _ (sym c.in_ok-agreement.was ∙ c.try_from.ensures)
    (sym c.in_ok-disagreement.was ∙ c.try_from-2.ensures) (cap_inside args.cap (omega arith) (omega arith))
