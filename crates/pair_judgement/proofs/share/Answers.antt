-- `pair_judgement::share` meets its contract. Assumes nothing.
use native.Mathlib.Omega.{arith}
use Rattle.pair_judgement.proofs.TreatLaws.{empty₁, empty₂, unshared, merge_asks}
use Rattle.pair_judgement.proofs.share.Goals.{then-a-eq0-via-then-a-eq0, then-a-eq0-via-else-a-eq0+then-b-eq0}
use Rattle.pair_judgement.proofs.share.Goals as goal

pub returns-then-a-eq0 : goal.returns-then-a-eq0
returns-then-a-eq0 c =
    let args = c.args in
    let a = args.a in
    let b = args.b in
    unshared a.layout b.layout a.extent.start b.extent.start args.first.now args.second.now (elim c.then-a-eq0.branch [
      | then-a-eq0-via-then-a-eq0 w ↦ empty₁ a.layout b.layout a.extent.start b.extent.start args.first.now args.second.now w.if-a-eq0.true
      | then-a-eq0-via-else-a-eq0+then-b-eq0 w ↦ empty₂ a.layout b.layout a.extent.start b.extent.start args.first.now args.second.now w.if-b-eq0.true
    ])

pub meet-requires : goal.meet-requires
meet-requires c =
    let args = c.args in
    let k = merge_asks args.a.layout args.b.layout args.a.extent args.b.extent args.first.now args.second.now c.requires (omega (arith, c.if-a-eq0.false)) (omega (arith, c.if-b-eq0.false)) in
    (c.requires.first.lies, c.requires.second.lies, k.0, k.1)
