-- `group::group_numbered` meets its contract. Assumes nothing.
use mathlib.Core.Path.{refl, sym, ◌∙◌}
use Rattle.refusal.specs.declared.Refusal.TheVariants.{Count}
use Rattle.std.proofs.lemmas.Result.{err_from_is_err_and}
use Rattle.group.proofs.GroupLaws.{as_they_came, no_strategy, too_full, passes}
use Rattle.group.proofs.group_numbered.Goals as goal

pub returns-in_err-w : goal.returns-in_err-w
returns-in_err-w c =
    let args = c.args in
    let p = err_from_is_err_and c.from_residual.result c.from_residual.ensures.1 in
    rw (p.1, p.2) (no_strategy args.agreement args.disagreement args.cap args.buf.now args.stats c.by_number.result
    c.by_number.ensures _ c.in_err-w.was (as_they_came _ args.stats) (refl, refl))

pub returns-then-full : goal.returns-then-full
returns-then-full c =
    let args = c.args in
    too_full args.agreement args.disagreement args.cap args.buf.now args.stats c.by_number.result c.by_number.ensures
    _ c.in_ok-w.was (sym c.full.ensures ∙ c.if-full.true) (as_they_came Count args.stats) (refl, refl)

pub group_framed-requires : goal.group_framed-requires
group_framed-requires c = sym c.full.ensures ∙ c.if-full.false

pub returns : goal.returns
returns c =
    let args = c.args in
    c.group_framed.ensures ∙ passes args.agreement args.disagreement args.cap args.buf.now args.stats c.by_number.result c.by_number.ensures
    _ c.in_ok-w.was (sym c.full.ensures ∙ c.if-full.false)
