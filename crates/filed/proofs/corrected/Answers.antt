-- `filed::corrected` meets its contract. Assumes nothing.
use mathlib.Core.Path.{sym, ◌∙◌}
use Rattle.std.proofs.lemmas.Result.{err_from_is_err_and}
use Rattle.filed.proofs.WriteLaws.{found_at}
use Rattle.filed.proofs.StageLaws.{too_full, broken, at, fits}
use Rattle.filed.proofs.corrected.Goals as goal

pub returns-then-full : goal.returns-then-full
returns-then-full c = (too_full _ _ _ (sym c.full.ensures ∙ c.if-full.true), tt)

pub returns-in_err-n : goal.returns-in_err-n
returns-in_err-n c =
    let p = err_from_is_err_and c.from_residual.result c.from_residual.ensures.1 in
    rw (p.1, p.2) (broken _ _ _ (sym c.full.ensures ∙ c.if-full.false) _ c.cut.ensures.0 _ c.in_err-n.was, tt)

pub correct_ended-requires : goal.correct_ended-requires
correct_ended-requires c = found_at _ _ _ _ c.in_ok-n.was c.cut.ensures.1

pub returns : goal.returns
returns c =
    let room = sym c.full.ensures ∙ c.if-full.false in
    let ends = c.correct_ended.ensures in
    (at _ _ _ room _ c.cut.ensures.0 _ c.in_ok-n.was _ (ends.0 c.args.stats), fits c.args.filed.now c.args.out.now _ room _ c.cut.ensures.0 _ ends.1)
