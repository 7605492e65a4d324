-- `group_verdicts::judge_pair` meets its contract. Assumes nothing.
use mathlib.Core.Path.{sym, ◌∙◌}
use Rattle.std.proofs.lemmas.Result.{err_from_is_err_and}
use Rattle.group_verdicts.proofs.JudgeLaws.{apart_passes, first_refused, second_refused, both_pass}
use Rattle.group_verdicts.proofs.judge_pair.Goals as goal

pub returns-in_default : goal.returns-in_default
returns-in_default c =
    let args = c.args in
    apart_passes args.first.now args.second.now args.i args.j c.requires.0 c.requires.1 _ (sym c.locate.ensures ∙ c.in_default.is)

pub span_of-requires : goal.span_of-requires
span_of-requires c = rw c.layout_of-y.ensures.0 c.requires.0

pub span_of-requires-2 : goal.span_of-requires-2
span_of-requires-2 c = rw c.layout_of-z.ensures.0 c.requires.1

pub returns-in_err-span_of : goal.returns-in_err-span_of
returns-in_err-span_of c =
    let args = c.args in
    let p = err_from_is_err_and c.from_residual.result c.from_residual.ensures.1 in
    rw (p.1, p.2) (first_refused args.first.now args.second.now args.i args.j c.requires.0 c.requires.1 _ (sym c.locate.ensures ∙ c.in-Ok.is)
    _ c.layout_of-y.ensures.0 _ (sym c.span_of.ensures ∙ c.in_err-span_of.was))

pub returns-in_err-span_of-2 : goal.returns-in_err-span_of-2
returns-in_err-span_of-2 c =
    let args = c.args in
    let p = err_from_is_err_and c.from_residual-in_err-span_of-2.result c.from_residual-in_err-span_of-2.ensures.1 in
    rw (p.1, p.2) (second_refused args.first.now args.second.now args.i args.j c.requires.0 c.requires.1 _ (sym c.locate.ensures ∙ c.in-Ok.is)
    _ c.layout_of-y.ensures.0 _ (sym c.span_of.ensures ∙ c.in_ok-span_of.was) _ c.layout_of-z.ensures.0 _ (sym c.span_of-2.ensures ∙ c.in_err-span_of-2.was))

pub returns : goal.returns
returns c =
    let args = c.args in
    both_pass args.first.now args.second.now args.i args.j c.requires.0 c.requires.1 _ (sym c.locate.ensures ∙ c.in-Ok.is)
    _ c.layout_of-y.ensures.0 _ (sym c.span_of.ensures ∙ c.in_ok-span_of.was) _ c.layout_of-z.ensures.0 _ (sym c.span_of-2.ensures ∙ c.in_ok-span_of-2.was)
