-- `line_filed::answer` meets its contract. Assumes nothing.
use mathlib.Core.Path.{refl}
use Rattle.filed.specs.declared.FiledAnswer.TheVariants.{Corrected, AlreadyDone, Refused}
use Rattle.line_filed.proofs.AnswerLaws.{too_long, answered}
use Rattle.line_filed.proofs.answer.Goals as goal

pub returns-then-n-gt-MOST : goal.returns-then-n-gt-MOST
returns-then-n-gt-MOST c =
    let args = c.args in
    too_long args.input.now args.filed.now args.out.now _ _ _ c.if-n-gt-MOST.true c.refused.ensures

pub returns-in-Refused : goal.returns-in-Refused
returns-in-Refused c =
    let args = c.args in
    answered args.input.now args.filed.now c.if-n-gt-MOST.false c.requires.1 c.new.result c.new.ensures
    c.correct.result _ c.correct.ensures (Refused _) c.in-Refused.is args.out.now _ _ _
    c.refused-in-Refused.ensures

pub returns-in-AlreadyDone : goal.returns-in-AlreadyDone
returns-in-AlreadyDone c =
    let args = c.args in
    let put = c.put_already-line.ensures in
    answered args.input.now args.filed.now c.if-n-gt-MOST.false c.requires.1 c.new.result c.new.ensures
    c.correct.result _ c.correct.ensures (AlreadyDone _ _) c.in-AlreadyDone.is args.out.now _ _ _
    (put.0, put.1, refl)

pub returns-in-Corrected : goal.returns-in-Corrected
returns-in-Corrected c =
    let args = c.args in
    let put = c.put_done-line.ensures in
    answered args.input.now args.filed.now c.if-n-gt-MOST.false c.requires.1 c.new.result c.new.ensures
    c.correct.result _ c.correct.ensures (Corrected _ _ _ _) c.in-Corrected.is args.out.now _ _ _
    (put.0, put.1, refl)
