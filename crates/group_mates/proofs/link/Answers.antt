use Rattle.group_mates.proofs.ChainLaws.{linked_start, linked_next, linked_all}
use native.Mathlib.Omega.{arith}
use Rattle.group_mates.proofs.link.Goals as goal

pub loop-k-init : goal.loop-k-init
loop-k-init c =
    let args = c.args in
    linked_start args.key.now _ args.next.now args.n (omega (arith, c.clear.auto.head)) c.requires.3 c.clear.ensures

pub offset_bounds-head-h : goal.offset_bounds-head-h
offset_bounds-head-h c = omega (arith, c.chain_of-h.ensures.1)

pub bounds-head-h : goal.bounds-head-h
bounds-head-h c = omega (arith, c.chain_of-h.ensures.1, c.loop-k.invariant.wide)

pub bounds-next-k : goal.bounds-next-k
bounds-next-k c = omega (arith, c.loop-k.invariant.long)

pub bounds-head-h-in-loop-k : goal.bounds-head-h-in-loop-k
bounds-head-h-in-loop-k c = omega (arith, c.chain_of-h.ensures.1, c.loop-k.invariant.wide)

pub loop-k-preserved : goal.loop-k-preserved
loop-k-preserved c =
    let args = c.args in
    let loop = c.loop-k in
    linked_next args.key.now loop.head loop.next args.n loop.k c.chain_of-h.result loop.invariant
    (omega arith) (omega arith) c.chain_of-h.ensures.0 c.chain_of-h.ensures.1

pub returns : goal.returns
returns c =
    let args = c.args in
    let loop = c.loop-k in
    linked_all args.key.now loop.head loop.next args.n loop.k loop.invariant (omega arith)
