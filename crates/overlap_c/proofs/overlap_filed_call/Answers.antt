-- `overlap_c::overlap_filed_call` meets its contract. Assumes nothing.
use Rattle.filed.specs.Filed.{ended}
use Rattle.overlap_c.proofs.FiledCallLaws.{filed_slice_wrong, filed_corrected, filed_known, filed_refused}
use Rattle.overlap_c.proofs.overlap_filed_call.Goals as goal

pub returns-then-counts-ne-COUNTS : goal.returns-then-counts-ne-COUNTS
returns-then-counts-ne-COUNTS c =
    let args = c.args in
    filed_slice_wrong args.filed.now args.out.now args.counts.now _ c.code.ensures c.if-counts-ne-COUNTS.true

pub returns-in-Corrected : goal.returns-in-Corrected
returns-in-Corrected c =
    let args = c.args in
    filed_corrected args.filed.now args.out.now args.counts.now c.if-counts-ne-COUNTS.false c.counts_at.result
    c.counts_at.ensures (ended c.correct-called.result.answer _ c.correct-called.result.stats)
    c.correct-called.ensures _ _ _ _ _ c.in-Corrected.is c.put_counts.ensures

pub returns-in-AlreadyDone : goal.returns-in-AlreadyDone
returns-in-AlreadyDone c =
    let args = c.args in
    filed_known args.filed.now args.out.now args.counts.now c.if-counts-ne-COUNTS.false c.counts_at.result
    c.counts_at.ensures (ended c.correct-called.result.answer _ c.correct-called.result.stats)
    c.correct-called.ensures _ _ c.in-AlreadyDone.is

pub returns-in-Refused : goal.returns-in-Refused
returns-in-Refused c =
    let args = c.args in
    filed_refused args.filed.now args.out.now args.counts.now c.if-counts-ne-COUNTS.false c.counts_at.result
    c.counts_at.ensures (ended c.correct-called.result.answer _ c.correct-called.result.stats)
    c.correct-called.ensures _ _ c.in-Refused.is c.code-in-Refused.ensures
