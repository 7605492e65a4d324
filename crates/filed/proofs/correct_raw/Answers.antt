-- `filed::correct_raw` meets its contract. Assumes nothing.
use mathlib.Core.Path.{sym, ◌∙◌}
use native.Mathlib.Omega.{arith}
use Rattle.std.proofs.lemmas.Result.{err_from_is_err_and}
use Rattle.filed.proofs.WriteLaws.{front_whole, growth_most}
use Rattle.filed.proofs.StageLaws.{no_numbers, pair_refused, output_short, all_written}
use Rattle.filed.proofs.correct_raw.Goals as goal

pub returns-in_err-w : goal.returns-in_err-w
returns-in_err-w c =
    let p = err_from_is_err_and c.from_residual.result c.from_residual.ensures.1 in
    let numbered = rw (c.numbers-agreement.ensures.0, c.numbers-agreement.ensures.1, c.from.ensures) at c.by_number.ensures in
    rw (p.1, p.2) ((λ g. no_numbers _ _ g _ _ _ numbered _ c.in_err-w.was), tt)

pub returns-in_err-judge_all : goal.returns-in_err-judge_all
returns-in_err-judge_all c =
    let p = err_from_is_err_and c.from_residual-in_err-judge_all.result c.from_residual-in_err-judge_all.ensures.1 in
    let numbered = rw (c.numbers-agreement.ensures.0, c.numbers-agreement.ensures.1, c.from.ensures) at c.by_number.ensures in
    rw (p.1, p.2) ((λ g. pair_refused _ _ g _ _ _ numbered _ c.in_ok-w.was _ (front_whole _ _ c.requires) _ (rw c.requires.bytes at c.judge_all.ensures) _ c.in_err-judge_all.was), tt)

pub returns-then-out-filed : goal.returns-then-out-filed
returns-then-out-filed c =
    let numbered = rw (c.numbers-agreement.ensures.0, c.numbers-agreement.ensures.1, c.from.ensures) at c.by_number.ensures in
    ((λ g. output_short _ _ g _ _ _ numbered _ c.in_ok-w.was _ (front_whole _ _ c.requires) _ (rw c.requires.bytes at c.judge_all.ensures) c.in_ok-judge_all.was c.if-out-filed.true), tt)

pub write_filed-applied-requires : goal.write_filed-applied-requires
write_filed-applied-requires c = (c.requires, c.find.ensures, omega arith, sym c.judge_all.ensures ∙ c.in_ok-judge_all.was)

pub returns : goal.returns
returns c =
    let numbered = rw (c.numbers-agreement.ensures.0, c.numbers-agreement.ensures.1, c.from.ensures) at c.by_number.ensures in
    let to = c.write_filed-applied.ensures in (
      (λ g. all_written _ _ g _ _ _ numbered _ c.in_ok-w.was _ (front_whole _ _ c.requires) _ (rw c.requires.bytes at c.judge_all.ensures) c.in_ok-judge_all.was c.if-out-filed.false _ _ to),
      growth_most _ _ _ _ c.requires.ends.placed.few to.stats,
    )
