-- `pair_judgement::treat_judged` meets its contract. Assumes nothing.
use mathlib.Core.Path.{refl}
use mathlib.Core.Logic.{inl, inr}
use Rattle.pair_judgement.proofs.ClearedLaws.{empty_met, cleared_asks}
use Rattle.pair_judgement.proofs.treat_judged.Goals.{then-y-eq0-via-then-y-eq0, then-y-eq0-via-else-y-eq0+then-z-eq0}
use Rattle.pair_judgement.proofs.treat_judged.Goals as goal

pub returns-then-y-eq0 : goal.returns-then-y-eq0
returns-then-y-eq0 c =
    let args = c.args in
    empty_met args.first.now args.second.now c.locate.result c.locate.ensures _ _ c.in-Ok.is
    c.layout_of-y.result c.layout_of-z.result c.layout_of-y.ensures.0 c.layout_of-z.ensures.0 (elim c.then-y-eq0.branch [
      | then-y-eq0-via-then-y-eq0 w ↦ inl w.if-y-eq0.true
      | then-y-eq0-via-else-y-eq0+then-z-eq0 w ↦ inr w.if-z-eq0.true
    ]) args.w args.g args.g 0 (refl, refl)

pub merge-requires : goal.merge-requires
merge-requires c =
    let args = c.args in
    cleared_asks args.first.now args.second.now c.locate.result c.locate.ensures _ _ c.in-Ok.is
    c.layout_of-y.result c.layout_of-z.result c.layout_of-y.ensures.0
    c.layout_of-z.ensures.0 c.requires.0 c.if-y-eq0.false c.if-z-eq0.false args.g c.requires.1
