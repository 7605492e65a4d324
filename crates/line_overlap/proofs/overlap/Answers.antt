-- `line_overlap::overlap` meets its contract. Assumes nothing.
use Rattle.line_overlap.proofs.AnswerLaws.{front_told}
use Rattle.line_overlap.proofs.overlap.Goals as goal

pub returns : goal.returns
returns c =
    let args = c.args in
    front_told args.n c.min-end.result args.input.now _ args.out.now _ _ _ c.min-end.ensures c.answer.auto.input c.answer.ensures
