use Prim.Native.Nat.{◌<◌}
use mathlib.Core.Path.{ap, ◌∙◌}
use lib.Seq.{get_or-take, length-take-le}
use native.Mathlib.Omega.{arith}
use Rattle.group_mates.specs.Table.{chain_of}
use Rattle.group_mates.proofs.ChainLaws.{cleared_start, cleared_next}
use Rattle.group_mates.proofs.clear.Goals as goal

pub loop-d-init : goal.loop-d-init
loop-d-init c =
    cleared_start c.args.key.now c.args.head.now c.requires.2

pub offset_bounds-head-chain_of : goal.offset_bounds-head-chain_of
offset_bounds-head-chain_of c = omega (arith, c.chain_of.ensures.1)

pub bounds-head-chain_of : goal.bounds-head-chain_of
bounds-head-chain_of c = omega (arith, c.chain_of.ensures.1, c.loop-d.invariant.wide)

pub loop-d-preserved : goal.loop-d-preserved
loop-d-preserved c =
    let args = c.args in
    let loop = c.loop-d in
    let below : loop.d-index < args.n = omega (arith, c.loop-d-test.true, c.requires.0, c.requires.1, length-take-le args.n args.key.now (omega (arith, c.requires.0, c.requires.1))) in
    cleared_next args.key.now loop.head loop.d-index c.chain_of.result loop.invariant
    (c.chain_of.ensures.0 ∙ ap chain_of (get_or-take args.n args.key.now loop.d-index 0 below)) c.chain_of.ensures.1

pub returns : goal.returns
returns c =
    let args = c.args in
    λ k l. c.loop-d.invariant.empty k (omega (arith, l, c.loop-d-test.false, length-take-le args.n args.key.now (omega (arith, c.requires.0, c.requires.1))))
