-- `group::group_framed` meets its contract: what its callees ensure, put together by the laws of the stages. Assumes nothing.
use mathlib.Core.Path.{refl, sym, ◌∙◌}
use native.Mathlib.Omega.{arith}
use Rattle.std.proofs.lemmas.Result.{err_from_is_err_and}
use Rattle.stats.proofs.CountLaws.{full_room}
use Rattle.group.proofs.GroupLaws.{as_they_came, filled, broken, refused_pair, done}
use Rattle.group.proofs.group_framed.Goals as goal

pub returns-in_err-count : goal.returns-in_err-count
returns-in_err-count c =
    let args = c.args in
    let p = err_from_is_err_and c.from_residual.result c.from_residual.ensures.1 in
    rw (p.1, p.2) (broken args.w args.buf.now args.stats c.cut.result c.cut.ensures.0 _ c.in_err-count.was (as_they_came _ args.stats) (refl, refl))

pub find-requires : goal.find-requires
find-requires c = (filled _ _ _ c.cut.result c.in_ok-count.was c.cut.ensures.1, omega arith)

pub judge_all-requires : goal.judge_all-requires
judge_all-requires c = (filled _ _ _ c.cut.result c.in_ok-count.was c.cut.ensures.1, c.find.ensures)

pub returns-in_err-judge_all : goal.returns-in_err-judge_all
returns-in_err-judge_all c =
    let args = c.args in
    let p = err_from_is_err_and c.from_residual-in_err-judge_all.result c.from_residual-in_err-judge_all.ensures.1 in
    rw (p.1, p.2) (refused_pair args.w args.buf.now args.stats c.cut.result c.cut.ensures.0 _ c.in_ok-count.was c.judge_all.result c.judge_all.ensures
    _ c.in_err-judge_all.was (as_they_came _ args.stats) (refl, refl))

pub apply_all-applied-requires : goal.apply_all-applied-requires
apply_all-applied-requires c = (
  filled _ _ _ c.cut.result c.in_ok-count.was c.cut.ensures.1,
  c.find.ensures,
  omega arith,
  full_room c.args.stats c.requires,
  sym c.judge_all.ensures ∙ c.in_ok-judge_all.was,
)

pub returns : goal.returns
returns c =
    let args = c.args in
    done args.w args.buf.now args.stats c.cut.result c.cut.ensures.0 _ c.in_ok-count.was c.judge_all.result c.judge_all.ensures c.in_ok-judge_all.was
    _ c.apply_all-applied.result c.apply_all-applied.ensures
