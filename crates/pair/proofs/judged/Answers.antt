-- `pair::judged` meets its contract. Assumes nothing.
use mathlib.Core.Path.{sym, ◌∙◌}
use Rattle.fields.proofs.CheckLaws.{good_sound}
use Rattle.pair_judgement.proofs.JudgeLaws.{is_err}
use Rattle.pair.proofs.CallLaws.{placed_first, placed_second, placed_judged}
use Rattle.pair.proofs.judged.Goals as goal

pub returns-in_err-y : goal.returns-in_err-y
returns-in_err-y c =
    is_err c.from_residual.result _ c.from_residual.ensures.1
    ∙ placed_first c.args.first.now c.args.second.now _ (sym c.check_record.ensures ∙ c.in_err-y.was)

pub returns-in_err-z : goal.returns-in_err-z
returns-in_err-z c =
    is_err c.from_residual-in_err-z.result _ c.from_residual-in_err-z.ensures.1
    ∙ placed_second c.args.first.now c.args.second.now _ (sym c.check_record.ensures ∙ c.in_ok-y.was)
    _ (sym c.check_record-2.ensures ∙ c.in_err-z.was)

pub judge-requires : goal.judge-requires
judge-requires c = (
  good_sound _ 1 _ (sym c.check_record.ensures ∙ c.in_ok-y.was),
  good_sound _ 2 _ (sym c.check_record-2.ensures ∙ c.in_ok-z.was),
)

pub returns-in_err-p : goal.returns-in_err-p
returns-in_err-p c =
    is_err c.from_residual-in_err-p.result _ c.from_residual-in_err-p.ensures.1
    ∙ placed_judged c.args.first.now c.args.second.now _ (sym c.check_record.ensures ∙ c.in_ok-y.was)
    _ _ (sym c.check_record-2.ensures ∙ c.in_ok-z.was) (sym c.judge.ensures ∙ c.in_err-p.was)

pub returns : goal.returns
returns c =
    placed_judged c.args.first.now c.args.second.now _ (sym c.check_record.ensures ∙ c.in_ok-y.was)
    _ _ (sym c.check_record-2.ensures ∙ c.in_ok-z.was) (sym c.judge.ensures ∙ c.in_ok-p.was)
