-- `pair_code::call` meets its contract. Assumes nothing.
use mathlib.Core.Path.{◌∙◌}
use Rattle.positions.specs.Step.{state}
use Rattle.pair.specs.Pair.{Outcome, outcome}
use Rattle.pair_code.proofs.CallLaws.{slice_wrong, numbers_wrong, counts_written, counts_left, called_is, called_as}
use Rattle.pair_code.proofs.call.Goals.{in-Overlap, in_default}
use Rattle.pair_code.proofs.call.Goals as goal

pub returns-then-counts-ne-COUNTS : goal.returns-then-counts-ne-COUNTS
returns-then-counts-ne-COUNTS c =
    let args = c.args in
    slice_wrong args.first.now args.second.now args.agreement args.disagreement args.cap args.counts.now _ c.code.ensures c.if-counts-ne-COUNTS.true

pub returns-in-Err : goal.returns-in-Err
returns-in-Err c =
    let args = c.args in
    numbers_wrong args.first.now args.second.now args.agreement args.disagreement args.cap args.counts.now c.if-counts-ne-COUNTS.false
    c.by_number.result c.by_number.ensures _ _ c.code-in-Err.ensures c.in-Err.is

pub returns : goal.returns
returns c =
    let args = c.args in
    let called = c.call-called in
    let g = called.result.stats in
    let o : Outcome = outcome called.result.answer (state called.new.first called.new.second g) in
    called_is c.code-2.result c.match-called.counts args.counts.now o c.code-2.ensures (elim c.match-called.branch [
      | in-Overlap w ↦ w.counts-is ∙ (w.put_counts.ensures ∙ counts_written called.result.answer args.counts.now g w.in-Overlap.is)
      | in_default w ↦ w.counts-is ∙ counts_left called.result.answer args.counts.now g w.in_default.not-Overlap
    ]) ∙ called_as args.first.now args.second.now args.agreement args.disagreement args.cap args.counts.now c.if-counts-ne-COUNTS.false
    c.by_number.result c.by_number.ensures _ c.counts_at.result o c.in-Ok.is c.counts_at.ensures called.ensures
