use Prim.Native.Nat.{◌+◌}
use native.Mathlib.Omega.{arith}
use Rattle.bases.proofs.BaseLaws.{lies_same}
use Rattle.positions.specs.Step.{state}
use Rattle.positions.proofs.BesideLaws.{adding_start, adding_differ, adding_room, adding_adds, adding_end}
use Rattle.rows.proofs.StretchLaws.{adding_stretch}
use Rattle.rows.proofs.treat_row.Goals as goal

pub loop-t-init : goal.loop-t-init
loop-t-init c =
    let args = c.args in
    adding_start args.job.strategies args.job.first args.job.second args.i.0 args.j.0 args.n
    (state args.first.now args.second.now args.g) c.requires.4
    (λ k q. omega (arith, c.type_inv.first k)) (λ k q. omega (arith, c.type_inv.second k))

pub agreeing-k-requires : goal.agreeing-k-requires
agreeing-k-requires c =
    let loop = c.loop-t in (
      lies_same loop.invariant.run.first c.requires.0,
      lies_same loop.invariant.run.second c.requires.1,
      omega (arith, c.requires.2, c.loop-t-test.true),
      omega (arith, c.requires.3, c.loop-t-test.true),
      (c.narrow.ensures.0 c.if-narrow.false).0.0,
      (c.narrow.ensures.0 c.if-narrow.false).1.0,
    )

pub overflow_add-yq : goal.overflow_add-yq
overflow_add-yq c =
    omega (arith, c.loop-t-test.true, c.requires.2, c.requires.0.qualities)

pub overflow_add-zq : goal.overflow_add-zq
overflow_add-zq c =
    omega (arith, c.loop-t-test.true, c.requires.3, c.requires.1.qualities)

pub treat-corrected-requires : goal.treat-corrected-requires
treat-corrected-requires c =
    let loop = c.loop-t in (
      omega (arith, (c.narrow.ensures.0 c.if-narrow.false).0.1),
      omega (arith, c.agreeing-k.ensures.most, c.loop-t-test.true, c.requires.2, c.requires.0.qualities, loop.invariant.run.first),
      omega (arith, (c.narrow.ensures.0 c.if-narrow.false).1.1),
      omega (arith, c.agreeing-k.ensures.most, c.loop-t-test.true, c.requires.3, c.requires.1.qualities, loop.invariant.run.second),
    )

pub overflow_add-corrected : goal.overflow_add-corrected
overflow_add-corrected c =
    let loop = c.loop-t in
    omega (arith, c.treat-corrected.ensures.1, loop.invariant.fewer, c.agreeing-k.ensures.most, c.loop-t-test.true, c.requires.2, c.requires.0.qualities, c.well_formed.1.0.0)

pub overflow_add-agreeing : goal.overflow_add-agreeing
overflow_add-agreeing c =
    let loop = c.loop-t in
    omega (arith, loop.invariant.few, c.agreeing-k.ensures.most, c.loop-t-test.true, c.requires.2, c.requires.0.qualities, c.well_formed.1.0.0)

pub overflow_add-t : goal.overflow_add-t
overflow_add-t c =
    omega (arith, c.agreeing-k.ensures.most, c.loop-t-test.true, c.requires.2, c.requires.0.qualities, c.well_formed.1.0.0)

pub overflow_add-u : goal.overflow_add-u
overflow_add-u c =
    omega (arith, c.if-t-n.true, c.requires.2, c.requires.0.qualities, c.well_formed.1.0.0)

pub overflow_add-v : goal.overflow_add-v
overflow_add-v c =
    omega (arith, c.if-t-n.true, c.requires.3, c.requires.1.qualities, c.well_formed.1.1.0.0)

pub treat_one-h-requires : goal.treat_one-h-requires
treat_one-h-requires c =
    let args = c.args in
    let loop = c.loop-t in (
      lies_same (omega (arith, loop.invariant.run.first)) c.requires.0,
      lies_same (omega (arith, loop.invariant.run.second)) c.requires.1,
      omega (arith, c.if-t-n.true, c.requires.2),
      omega (arith, c.if-t-n.true, c.requires.3),
      adding_room args.job.strategies args.job.first args.job.second args.i.0 args.j.0 args.n
          (state args.first.now args.second.now args.g) loop.t loop.first loop.second loop.h loop.agreeing loop.corrected
          (record { first = c.requires.0; second = c.requires.1 }) c.requires.2 c.requires.3 c.loop-t-test.true loop.invariant,
    )

pub overflow_add-t-then-t-n : goal.overflow_add-t-then-t-n
overflow_add-t-then-t-n c =
    omega (arith, c.if-t-n.true, c.requires.2, c.requires.0.qualities, c.well_formed.1.0.0)

pub loop-t-smaller-then-t-n : goal.loop-t-smaller-then-t-n
loop-t-smaller-then-t-n c =
    omega (arith, c.if-t-n.true)

pub loop-t-preserved-then-t-n : goal.loop-t-preserved-then-t-n
loop-t-preserved-then-t-n c =
    let args = c.args in
    let loop = c.loop-t in
    let mid =
    adding_stretch args.job.strategies args.job.first args.job.second args.i.0 args.j.0 args.n
    (state args.first.now args.second.now args.g)
    (record { first = c.requires.0; second = c.requires.1 }) c.requires.2 c.requires.3
    c.agreeing-k.result loop.t loop.first loop.second loop.h loop.agreeing loop.corrected
    _ _ c.treat-corrected.result (omega (arith, c.agreeing-k.ensures.most, loop.invariant.run.low))
    c.agreeing-k.ensures.alike loop.invariant c.treat-corrected.ensures.0 in
    adding_differ args.job.strategies args.job.first args.job.second args.i.0 args.j.0 args.n
    (state args.first.now args.second.now args.g)
    (loop.t + c.agreeing-k.result) _ _ loop.h (loop.agreeing + c.agreeing-k.result) (loop.corrected + c.treat-corrected.result)
    (record { first = c.requires.0; second = c.requires.1 }) c.requires.2 c.requires.3 c.if-t-n.true mid _ _ _ c.treat_one-h.ensures

pub loop-t-smaller : goal.loop-t-smaller
loop-t-smaller c =
    omega (arith, c.if-t-n.false, c.loop-t-test.true)

pub loop-t-preserved : goal.loop-t-preserved
loop-t-preserved c =
    let args = c.args in
    let loop = c.loop-t in
    adding_stretch args.job.strategies args.job.first args.job.second args.i.0 args.j.0 args.n
    (state args.first.now args.second.now args.g)
    (record { first = c.requires.0; second = c.requires.1 }) c.requires.2 c.requires.3
    c.agreeing-k.result loop.t loop.first loop.second loop.h loop.agreeing loop.corrected
    _ _ c.treat-corrected.result (omega (arith, c.agreeing-k.ensures.most, loop.invariant.run.low))
    c.agreeing-k.ensures.alike loop.invariant c.treat-corrected.ensures.0

pub plus-requires : goal.plus-requires
plus-requires c =
    let args = c.args in
    let loop = c.loop-t in
    adding_adds args.job.strategies args.job.first args.job.second args.i.0 args.j.0 args.n
    (state args.first.now args.second.now args.g) loop.t loop.first loop.second loop.h loop.agreeing loop.corrected c.agreements.result c.agreements.ensures loop.invariant

pub shape_of-first : goal.shape_of-first
shape_of-first c =
    let loop = c.loop-t in
    loop.invariant.run.first

pub shape_of-second : goal.shape_of-second
shape_of-second c =
    let loop = c.loop-t in
    loop.invariant.run.second

pub returns : goal.returns
returns c =
    let args = c.args in
    let loop = c.loop-t in
    adding_end args.job.strategies args.job.first args.job.second args.i.0 args.j.0 args.n
    (state args.first.now args.second.now args.g) loop.t loop.first loop.second loop.h loop.agreeing loop.corrected
    c.agreements.result c.agreements.ensures loop.invariant c.plus.result c.plus.ensures c.loop-t-test.false
