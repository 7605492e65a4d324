use Prim.Native.Nat.{◌*◌}
use Rattle.stats.proofs.CountLaws.{room_less}
use Rattle.bases.proofs.BaseLaws.{lies_same}
use Rattle.positions.specs.Step.{state}
use Rattle.positions.specs.Treating.{row}
use Rattle.pair_merge.proofs.MergeLaws.{merging_start, merging_skipped, merging_both, merging_end₁, merging_end₂}
use Rattle.pair_merge.proofs.MergeLaws.{ready₁, ready₂, poised, ran, less₁, settled_at, start_stands}
use native.Mathlib.Omega.{arith}
use Rattle.pair_merge.proofs.merge.Goals as goal

pub begin-begun-requires : goal.begin-begun-requires
begin-begun-requires c =
    let args = c.args in
    start_stands args.w.first args.p args.first.now c.requires.0 c.requires.2

pub begin-mate-requires : goal.begin-mate-requires
begin-mate-requires c =
    let args = c.args in
    start_stands args.w.second args.q args.second.now c.requires.1 c.requires.3

pub meeting-requires : goal.meeting-requires
meeting-requires c =
    let args = c.args in
    let s₀ = state args.first.now args.second.now args.g in
    let start = merging_start args.w.strategies args.w.first args.w.second args.p args.q s₀ c.begin-begun.result c.begin-mate.result
    c.requires.2 c.requires.3 c.requires.4 c.begin-begun.ensures c.begin-mate.ensures in
    poised args.w.strategies args.w.first args.w.second args.p args.q s₀ c.begin-begun.result c.begin-mate.result 0 s₀ start
    c.requires.0 c.requires.1 c.requires.2 c.requires.3

pub loop-a-init : goal.loop-a-init
loop-a-init c =
    let args = c.args in
    let s₀ = state args.first.now args.second.now args.g in
    let start = merging_start args.w.strategies args.w.first args.w.second args.p args.q s₀ c.begin-begun.result c.begin-mate.result
    c.requires.2 c.requires.3 c.requires.4 c.begin-begun.ensures c.begin-mate.ensures in (
      merging_skipped args.w.strategies args.w.first args.w.second args.p args.q s₀ c.begin-begun.result c.begin-mate.result
          c.meeting.result.0 c.meeting.result.1 0 s₀ start c.meeting.ensures.skipped,
      c.meeting.ensures.level,
    )

pub treat_row-h-requires : goal.treat_row-h-requires
treat_row-h-requires c =
    let loop = c.loop-a in
    let m = loop.invariant.0 in (
      lies_same m.first c.requires.0,
      lies_same m.second c.requires.1,
      omega (arith, c.min-n.ensures, m.side₁.reads),
      omega (arith, c.min-n.ensures, m.side₂.reads),
      room_less loop.h (2 * c.min-n.result) _ (omega (arith, c.min-n.ensures, m.side₁.reads)) m.room,
    )

pub overflow_add-met : goal.overflow_add-met
overflow_add-met c =
    let m = c.loop-a.invariant.0 in
    omega (arith, c.min-n.ensures, m.side₁.reads, m.few, c.requires.2.small)

pub pass-passed-requires : goal.pass-passed-requires
pass-passed-requires c =
    let args = c.args in
    let loop = c.loop-a in
    let s₀ = state args.first.now args.second.now args.g in
    let s = state loop.first loop.second loop.h in
    let after = ran args.w.strategies args.w.first args.w.second args.p args.q s₀ loop.a loop.b loop.met s _ (row loop.a.offset.0 loop.b.offset.0 c.min-n.result)
    (omega (arith, c.requires.0.bases)) (omega (arith, c.requires.1.bases)) loop.invariant.0 c.treat_row-h.ensures in
    ready₁ args.w.strategies args.w.first args.w.second args.p args.q s₀ loop.a _ loop.a.position.0
    c.min-n.result loop.invariant.0.side₁ after.first after.front₁ c.requires.0 c.requires.2
    (omega (arith, c.min-n.ensures))

pub pass-mate-requires : goal.pass-mate-requires
pass-mate-requires c =
    let args = c.args in
    let loop = c.loop-a in
    let s₀ = state args.first.now args.second.now args.g in
    let s = state loop.first loop.second loop.h in
    let after = ran args.w.strategies args.w.first args.w.second args.p args.q s₀ loop.a loop.b loop.met s _ (row loop.a.offset.0 loop.b.offset.0 c.min-n.result)
    (omega (arith, c.requires.0.bases)) (omega (arith, c.requires.1.bases)) loop.invariant.0 c.treat_row-h.ensures in
    ready₂ args.w.strategies args.w.first args.w.second args.p args.q s₀ loop.b _ loop.a.position.0
    c.min-n.result loop.invariant.0.side₂ after.second after.front₂ c.requires.1 c.requires.3
    (omega (arith, c.min-n.ensures))

pub meeting-requires-in-loop-a : goal.meeting-requires-in-loop-a
meeting-requires-in-loop-a c =
    let args = c.args in
    let loop = c.loop-a in
    let s₀ = state args.first.now args.second.now args.g in
    let s = state loop.first loop.second loop.h in
    let after = ran args.w.strategies args.w.first args.w.second args.p args.q s₀ loop.a loop.b loop.met s _ (row loop.a.offset.0 loop.b.offset.0 c.min-n.result)
    (omega (arith, c.requires.0.bases)) (omega (arith, c.requires.1.bases)) loop.invariant.0 c.treat_row-h.ensures in
    let both = merging_both args.w.strategies args.w.first args.w.second args.p args.q s₀ loop.a loop.b
    c.pass-passed.result c.pass-mate.result loop.met s (state c.treat_row-h.new.first c.treat_row-h.new.second c.treat_row-h.result) c.min-n.result
    (omega (arith, c.requires.0.bases)) (omega (arith, c.requires.1.bases)) loop.invariant.0 (omega (arith, c.min-n.ensures))
    (omega (arith, c.min-n.ensures)) (loop.invariant.1 c.loop-a-test.true c.if-b-ne0.true)
    (settled_at after.front₁ c.pass-passed.ensures) (settled_at after.front₂ c.pass-mate.ensures)
    c.treat_row-h.ensures in
    poised args.w.strategies args.w.first args.w.second args.p args.q s₀ c.pass-passed.result c.pass-mate.result _ _ both
    c.requires.0 c.requires.1 c.requires.2 c.requires.3

pub loop-a-smaller : goal.loop-a-smaller
loop-a-smaller c =
    let args = c.args in
    let loop = c.loop-a in
    let s₀ = state args.first.now args.second.now args.g in
    let s = state loop.first loop.second loop.h in
    let after = ran args.w.strategies args.w.first args.w.second args.p args.q s₀ loop.a loop.b loop.met s _ (row loop.a.offset.0 loop.b.offset.0 c.min-n.result)
    (omega (arith, c.requires.0.bases)) (omega (arith, c.requires.1.bases)) loop.invariant.0 c.treat_row-h.ensures in
    omega (
      arith,
      c.meeting-in-loop-a.ensures.skipped.up,
      less₁ args.w.strategies args.w.first args.w.second args.p args.q s₀ loop.a c.pass-passed.result
          loop.a.position.0 c.min-n.result loop.invariant.0.side₁
          (omega (arith, c.min-n.ensures, c.if-b-ne0.true, c.loop-a-test.true))
          (omega (arith, c.min-n.ensures)) (settled_at after.front₁ c.pass-passed.ensures),
    )

pub loop-a-preserved : goal.loop-a-preserved
loop-a-preserved c =
    let args = c.args in
    let loop = c.loop-a in
    let s₀ = state args.first.now args.second.now args.g in
    let s = state loop.first loop.second loop.h in
    let after = ran args.w.strategies args.w.first args.w.second args.p args.q s₀ loop.a loop.b loop.met s _ (row loop.a.offset.0 loop.b.offset.0 c.min-n.result)
    (omega (arith, c.requires.0.bases)) (omega (arith, c.requires.1.bases)) loop.invariant.0 c.treat_row-h.ensures in
    let both = merging_both args.w.strategies args.w.first args.w.second args.p args.q s₀ loop.a loop.b
    c.pass-passed.result c.pass-mate.result loop.met s (state c.treat_row-h.new.first c.treat_row-h.new.second c.treat_row-h.result) c.min-n.result
    (omega (arith, c.requires.0.bases)) (omega (arith, c.requires.1.bases)) loop.invariant.0 (omega (arith, c.min-n.ensures))
    (omega (arith, c.min-n.ensures)) (loop.invariant.1 c.loop-a-test.true c.if-b-ne0.true)
    (settled_at after.front₁ c.pass-passed.ensures) (settled_at after.front₂ c.pass-mate.ensures)
    c.treat_row-h.ensures in (
      merging_skipped args.w.strategies args.w.first args.w.second args.p args.q s₀ c.pass-passed.result c.pass-mate.result
          c.meeting-in-loop-a.result.0 c.meeting-in-loop-a.result.1 _ _ both c.meeting-in-loop-a.ensures.skipped,
      c.meeting-in-loop-a.ensures.level,
    )

pub returns-else-b-ne0-clause-treated : goal.returns-else-b-ne0-clause-treated
returns-else-b-ne0-clause-treated c =
    let args = c.args in
    let loop = c.loop-a in
    let s₀ = state args.first.now args.second.now args.g in
    let s = state loop.first loop.second loop.h in
    (merging_end₂ args.w.strategies args.w.first args.w.second args.p args.q s₀ loop.a loop.b loop.met s loop.invariant.0 c.if-b-ne0.false).treated

pub returns-else-b-ne0-clause-counted : goal.returns-else-b-ne0-clause-counted
returns-else-b-ne0-clause-counted c =
    let args = c.args in
    let loop = c.loop-a in
    let s₀ = state args.first.now args.second.now args.g in
    let s = state loop.first loop.second loop.h in
    (merging_end₂ args.w.strategies args.w.first args.w.second args.p args.q s₀ loop.a loop.b loop.met s loop.invariant.0 c.if-b-ne0.false).counted

pub returns-after-loop-a-clause-treated : goal.returns-after-loop-a-clause-treated
returns-after-loop-a-clause-treated c =
    let args = c.args in
    let loop = c.loop-a in
    let s₀ = state args.first.now args.second.now args.g in
    let s = state loop.first loop.second loop.h in
    (merging_end₁ args.w.strategies args.w.first args.w.second args.p args.q s₀ loop.a loop.b loop.met s loop.invariant.0 c.loop-a-test.false).treated

pub returns-after-loop-a-clause-counted : goal.returns-after-loop-a-clause-counted
returns-after-loop-a-clause-counted c =
    let args = c.args in
    let loop = c.loop-a in
    let s₀ = state args.first.now args.second.now args.g in
    let s = state loop.first loop.second loop.h in
    (merging_end₁ args.w.strategies args.w.first args.w.second args.p args.q s₀ loop.a loop.b loop.met s loop.invariant.0 c.loop-a-test.false).counted
