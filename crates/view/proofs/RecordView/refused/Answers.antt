-- `view::RecordView::refused` meets its contract: by what the check finds. Assumes nothing.
use native.Mathlib.Omega.{arith}
use Rattle.view.proofs.ViewLaws.{good_well, bad_refused, bad_well}
use mathlib.Core.Path.{sym, ◌∙◌}
use Rattle.view.proofs.RecordView.refused.Goals as goal

pub returns-in-Err : goal.returns-in-Err
returns-in-Err c =
    bad_refused _ _ (sym c.check_record.ensures ∙ c.in-Err.is)
    (omega (arith, c.number.ensures, c.if-number-lt4.true))

pub returns-in_default : goal.returns-in_default
returns-in_default c =
    bad_well _ _ (sym c.check_record.ensures ∙ c.in-Err.is)
    (omega (arith, c.number.ensures, c.if-number-lt4.false))

pub returns-in_default-2 : goal.returns-in_default-2
returns-in_default-2 c = good_well _ _ (sym c.check_record.ensures ∙ c.in_default.is)
