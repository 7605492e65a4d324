use mathlib.Core.Path.{sym, ◌∙◌}
use mathlib.Core.Bool.{◌&&◌}
use native.Mathlib.Omega.{arith}
use lib.Dec.{eqb}
use Rattle.bases.proofs.BaseLaws.{lies_same}
use Rattle.positions.specs.Step.{state}
use Rattle.lane.proofs.LaneLaws.{bit_low}
use Rattle.positions.proofs.BesideLaws.{adding_start, adding_none, adding_agreed, adding_differ, adding_room, adding_adds, adding_end}
use Rattle.positions.proofs.PointLaws.{Both}
use Rattle.positions.proofs.treat_row.Goals as goal
use Rattle.positions.proofs.treat_row.Goals.{then-a-b, else-a-b}

pub loop-t-init : goal.loop-t-init
loop-t-init c =
    let args = c.args in
    adding_start args.job.strategies args.job.first args.job.second args.i.0 args.j.0 args.n
    (state args.first.now args.second.now args.g) c.requires.4 (λ k q. omega (arith, c.type_inv.first k))
    (λ k q. omega (arith, c.type_inv.second k))

pub get-a-requires : goal.get-a-requires
get-a-requires c =
    (lies_same c.loop-t.invariant.run.first c.requires.0, omega arith)

pub get-b-requires : goal.get-b-requires
get-b-requires c =
    (lies_same c.loop-t.invariant.run.second c.requires.1, omega arith)

pub loop-t-preserved-then-a-eq-N : goal.loop-t-preserved-then-a-eq-N
loop-t-preserved-then-a-eq-N c =
    let args = c.args in
    let loop = c.loop-t in
    adding_none args.job.strategies args.job.first args.job.second args.i.0 args.j.0 args.n (state args.first.now args.second.now args.g)
    loop.t loop.first loop.second loop.h loop.agreeing loop.corrected
    (record { first = c.requires.0; second = c.requires.1 }) c.requires.2 c.requires.3 c.loop-t-test.true
    loop.invariant (sym c.get-a.ensures.base ∙ c.if-a-eq-N.true)

pub overflow_add-first : goal.overflow_add-first
overflow_add-first c =
    omega (arith, c.loop-t-test.true, c.requires.2, c.requires.0.qualities, c.well_formed.1.0.0)

pub overflow_add-second : goal.overflow_add-second
overflow_add-second c =
    omega (arith, c.loop-t-test.true, c.requires.3, c.requires.1.qualities, c.well_formed.1.1.0.0)

pub bounds-second-zq : goal.bounds-second-zq
bounds-second-zq c =
    omega (arith, c.loop-t-test.true, c.requires.3, c.requires.1.qualities, c.loop-t.invariant.run.second)

pub overflow_add-corrected : goal.overflow_add-corrected
overflow_add-corrected c =
    let one =
    bit_low (eqb c.get-a.result.quality c.agreed-r.result.qual1 && eqb c.get-b.result.quality c.agreed-r.result.qual2) in
    omega (
      arith,
      c.loop-t.invariant.fewer,
      c.loop-t-test.true,
      c.requires.2,
      c.requires.0.qualities,
      c.well_formed.1.0.0,
      c.from-corrected.ensures,
      c.changed.ensures,
    )

pub treat_one-h-requires : goal.treat_one-h-requires
treat_one-h-requires c =
    let args = c.args in
    let loop = c.loop-t in (
      lies_same loop.invariant.run.first c.requires.0,
      lies_same loop.invariant.run.second c.requires.1,
      omega arith,
      omega arith,
      adding_room args.job.strategies args.job.first args.job.second args.i.0 args.j.0 args.n
          (state args.first.now args.second.now args.g) loop.t loop.first loop.second loop.h loop.agreeing
          loop.corrected (record { first = c.requires.0; second = c.requires.1 }) c.requires.2 c.requires.3
          c.loop-t-test.true loop.invariant,
    )

pub loop-t-preserved : goal.loop-t-preserved
loop-t-preserved c =
    let args = c.args in
    let loop = c.loop-t in
    let both : Both args.job.first args.job.second (state args.first.now args.second.now args.g) = record { first = c.requires.0; second = c.requires.1 } in
    elim c.if-a-b.branch [
      | then-a-b w ↦ rw (w.first-is, w.second-is, w.h-is, w.agreeing-is, w.corrected-is)
          (adding_agreed args.job.strategies args.job.first args.job.second args.i.0 args.j.0 args.n
          (state args.first.now args.second.now args.g) loop.t loop.first loop.second loop.h loop.agreeing
          loop.corrected both c.requires.2 c.requires.3 c.loop-t-test.true loop.invariant w.agreed-r.result w.from-corrected.result
          (sym c.get-a.ensures.base ∙ (w.if-a-b.true ∙ c.get-b.ensures.base))
          (λ e. c.if-a-eq-N.false (c.get-a.ensures.base ∙ e))
          (rw (c.get-a.ensures.quality, c.get-b.ensures.quality) at w.agreed-r.ensures)
          (rw (c.get-a.ensures.quality, c.get-b.ensures.quality) at (w.from-corrected.ensures ∙ w.changed.ensures)))
      | else-a-b w ↦ rw (w.first-is, w.second-is, w.h-is, w.agreeing-is, w.corrected-is)
          (adding_differ args.job.strategies args.job.first args.job.second args.i.0 args.j.0 args.n
          (state args.first.now args.second.now args.g) loop.t loop.first loop.second loop.h loop.agreeing
          loop.corrected both c.requires.2 c.requires.3 c.loop-t-test.true loop.invariant _ _ _ w.treat_one-h.ensures)
    ]

pub plus-requires : goal.plus-requires
plus-requires c =
    let args = c.args in
    let loop = c.loop-t in
    adding_adds args.job.strategies args.job.first args.job.second args.i.0 args.j.0 args.n (state args.first.now args.second.now args.g)
    loop.t loop.first loop.second loop.h loop.agreeing loop.corrected c.agreements.result c.agreements.ensures
    loop.invariant

pub shape_of-first : goal.shape_of-first
shape_of-first c = c.loop-t.invariant.run.first

pub shape_of-second : goal.shape_of-second
shape_of-second c = c.loop-t.invariant.run.second

pub returns : goal.returns
returns c =
    let args = c.args in
    let loop = c.loop-t in
    adding_end args.job.strategies args.job.first args.job.second args.i.0 args.j.0 args.n (state args.first.now args.second.now args.g)
    loop.t loop.first loop.second loop.h loop.agreeing loop.corrected c.agreements.result
    c.agreements.ensures loop.invariant c.plus.result c.plus.ensures c.loop-t-test.false
