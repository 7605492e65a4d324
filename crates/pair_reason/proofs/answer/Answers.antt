-- `pair_reason::answer` meets its contract. Assumes nothing.
use mathlib.Core.Path.{sym, ◌∙◌}
use Rattle.pair.proofs.CallLaws.{placed_ready}
use Rattle.pair_reason.proofs.AnswerLaws.{some_shared, none_shared, found_answer}
use Rattle.pair_reason.proofs.answer.Goals as goal

pub returns-in-Err : goal.returns-in-Err
returns-in-Err c =
    c.from.ensures ∙ (rw (sym c.judged.ensures ∙ c.in-Err.is) at (found_answer c.args.first.now c.args.second.now))

pub share-requires : goal.share-requires
share-requires c =
    placed_ready c.args.first.now c.args.second.now c.in-Ok.placed (sym c.judged.ensures ∙ c.in-Ok.is)

pub returns-then-share : goal.returns-then-share
returns-then-share c =
    let first = c.args.first.now in
    let second = c.args.second.now in
    let v = c.in-Ok.placed in
    let is = sym c.judged.ensures ∙ c.in-Ok.is in
    some_shared v.0.layout v.1.layout v.0.extent v.1.extent first second (placed_ready first second v is) c.share.result c.share.ensures c.if-share.true
    ∙ (rw is at (found_answer first second))

pub returns : goal.returns
returns c =
    let first = c.args.first.now in
    let second = c.args.second.now in
    let v = c.in-Ok.placed in
    let is = sym c.judged.ensures ∙ c.in-Ok.is in
    none_shared v.0.layout v.1.layout v.0.extent v.1.extent first second (placed_ready first second v is) c.share.result c.share.ensures
    c.unshared.result c.unshared.ensures c.if-share.false ∙ (rw is at (found_answer first second))
