-- `positions::treat_one` meets its contract. Assumes nothing.
use mathlib.Core.Path.{subst⁻¹}
use Rattle.stats.proofs.CountLaws.{room_adds}
use Rattle.strategy.proofs.RuleLaws.{Fine, fine}
use Rattle.positions.specs.Step.{job}
use Rattle.positions.proofs.StepLaws.{step_as}
use Rattle.positions.proofs.treat_one.Goals as goal

pub set-requires : goal.set-requires
set-requires c = (
  c.requires.0,
  c.requires.2,
  (subst⁻¹ Fine c.treat-o.ensures
      (fine c.args.job.strategies _ _ _ _ c.get-p.ensures.small c.get-q.ensures.small)).base1,
)

pub set-requires-2 : goal.set-requires-2
set-requires-2 c = (
  c.requires.1,
  c.requires.3,
  (subst⁻¹ Fine c.treat-o.ensures
      (fine c.args.job.strategies _ _ _ _ c.get-p.ensures.small c.get-q.ensures.small)).base2,
)

pub plus-requires : goal.plus-requires
plus-requires c =
    let args = c.args in
    room_adds args.g _ 2 c.requires.4
    (subst⁻¹ Fine c.treat-o.ensures (fine args.job.strategies _ _ _ _ c.get-p.ensures.small c.get-q.ensures.small)).growth

pub returns : goal.returns
returns c =
    let args = c.args in
    step_as (job args.job.strategies args.job.first args.job.second) args.first.now args.second.now _ _ args.g _ args.i.0 args.j.0
    c.get-p.result c.get-q.result c.treat-o.result c.get-p.ensures c.get-q.ensures
    c.treat-o.ensures c.set.ensures c.set-2.ensures c.plus.ensures
