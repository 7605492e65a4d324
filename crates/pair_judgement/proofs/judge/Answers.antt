-- `pair_judgement::judge` meets its contract. Assumes nothing.
use mathlib.Core.Path.{sym, ◌∙◌}
use Rattle.pair_judgement.proofs.JudgeLaws.{is_err, judged_apart, first_span, second_span, both_spans}
use Rattle.pair_judgement.proofs.judge.Goals as goal

pub returns-in_err-pos1 : goal.returns-in_err-pos1
returns-in_err-pos1 c =
    let args = c.args in
    is_err c.from_residual.result _ c.from_residual.ensures.1
    ∙ judged_apart args.y args.z args.first.now args.second.now args.place1 args.place2 c.locate.result c.locate.ensures _ c.in_err-pos1.was

pub returns-in_err-extent1 : goal.returns-in_err-extent1
returns-in_err-extent1 c =
    let args = c.args in
    is_err c.from_residual-in_err-extent1.result _ c.from_residual-in_err-extent1.ensures.1
    ∙ first_span args.y args.z args.first.now args.second.now args.place1 args.place2 c.locate.result c.locate.ensures _ _ c.in_ok-pos1.was
    _ (sym c.span_of.ensures ∙ c.in_err-extent1.was)

pub returns-in_err-extent2 : goal.returns-in_err-extent2
returns-in_err-extent2 c =
    let args = c.args in
    is_err c.from_residual-in_err-extent2.result _ c.from_residual-in_err-extent2.ensures.1
    ∙ second_span args.y args.z args.first.now args.second.now args.place1 args.place2 c.locate.result c.locate.ensures _ _ c.in_ok-pos1.was
    _ _ (sym c.span_of.ensures ∙ c.in_ok-extent1.was) (sym c.span_of-2.ensures ∙ c.in_err-extent2.was)

pub returns : goal.returns
returns c =
    let args = c.args in
    both_spans args.y args.z args.first.now args.second.now args.place1 args.place2 c.locate.result c.locate.ensures _ _ c.in_ok-pos1.was
    _ _ (sym c.span_of.ensures ∙ c.in_ok-extent1.was) (sym c.span_of-2.ensures ∙ c.in_ok-extent2.was)
