-- `line_overlap::answer` meets its contract. Assumes nothing.
use mathlib.Core.Path.{refl}
use Rattle.line_overlap.proofs.AnswerLaws.{too_long, no_digits, refused_group, done_group}
use Rattle.line_overlap.proofs.answer.Goals as goal

pub returns-then-n-gt-MOST : goal.returns-then-n-gt-MOST
returns-then-n-gt-MOST c =
    let args = c.args in
    too_long args.input.now args.out.now _ _ _ c.if-n-gt-MOST.true c.refused.ensures

pub returns-then-n-lt2 : goal.returns-then-n-lt2
returns-then-n-lt2 c =
    let args = c.args in
    no_digits args.input.now c.if-n-gt-MOST.false args.out.now _ _ _ c.if-n-lt2.true c.refused-then-n-lt2.ensures

pub returns-in-Refused : goal.returns-in-Refused
returns-in-Refused c =
    let args = c.args in
    let called = rw c.from.ensures at c.group-grouped.ensures in
    refused_group args.input.now c.if-n-gt-MOST.false c.number_at-agreement.result c.number_at-disagreement.result
    c.number_at-agreement.ensures c.number_at-disagreement.ensures c.if-n-lt2.false c.new.result
    c.new.ensures c.group-grouped.result c.group-grouped.new.buf called c.group-grouped.auto.buf _
    refl _ c.in-Refused.is args.out.now _ _ _ c.refused-in-Refused.ensures

pub returns-in-Done : goal.returns-in-Done
returns-in-Done c =
    let args = c.args in
    let called = rw c.from.ensures at c.group-grouped.ensures in
    done_group args.input.now c.if-n-gt-MOST.false c.number_at-agreement.result c.number_at-disagreement.result
    c.number_at-agreement.ensures c.number_at-disagreement.ensures c.if-n-lt2.false c.new.result
    c.new.ensures c.group-grouped.result c.group-grouped.new.buf called c.group-grouped.auto.buf _
    refl _ _ _ c.in-Done.is args.out.now _ _ c.put_done-line.ensures.0 c.put_done-line.ensures.1
