-- `pair_judgement::treat` meets its contract. Assumes nothing.
use mathlib.Core.Path.{refl}
use Rattle.stats.proofs.CountLaws.{room_less}
use Rattle.pair_judgement.proofs.TreatLaws.{empty₁, empty₂, before, behind, none_met, merge_asks, few_bases}
use Rattle.positions.specs.Step.{job}
use native.Mathlib.Omega.{arith}
use Rattle.pair_judgement.proofs.treat.Goals.{then-y-eq0-via-then-y-eq0, then-y-eq0-via-else-y-eq0+then-z-eq0, then-y-eq0-via-else-y-eq0+else-z-eq0+then-p-q, then-y-eq0-via-else-y-eq0+else-z-eq0+else-p-q+then-q-p}
use Rattle.pair_judgement.proofs.treat.Goals as goal

pub returns-then-y-eq0 : goal.returns-then-y-eq0
returns-then-y-eq0 c =
    let args = c.args in
    let first = args.first.now in
    let second = args.second.now in
    let y = args.a.layout in
    let z = args.b.layout in
    let p = args.a.extent in
    let q = args.b.extent in
    none_met (job args.w y z) p.start q.start first second args.g args.g 0 (elim c.then-y-eq0.branch [
      | then-y-eq0-via-then-y-eq0 w ↦ empty₁ y z p.start q.start first second w.if-y-eq0.true
      | then-y-eq0-via-else-y-eq0+then-z-eq0 w ↦ empty₂ y z p.start q.start first second w.if-z-eq0.true
      | then-y-eq0-via-else-y-eq0+else-z-eq0+then-p-q w ↦ before y z p q first second c.requires.0 w.if-p-q.true
      | then-y-eq0-via-else-y-eq0+else-z-eq0+else-p-q+then-q-p w ↦ behind y z p q first second c.requires.0 w.if-q-p.true
    ]) (refl, refl)

pub merge-requires : goal.merge-requires
merge-requires c =
    let args = c.args in
    let k = merge_asks args.a.layout args.b.layout args.a.extent args.b.extent args.first.now args.second.now c.requires.0
    (omega (arith, c.if-y-eq0.false)) (omega (arith, c.if-z-eq0.false)) in (
      c.requires.0.first.lies,
      c.requires.0.second.lies,
      k.0,
      k.1,
      room_less args.g _ 131072 (few_bases _ args.a.layout c.requires.0.first) c.requires.1,
    )
