use lib.ListN.{take}
use native.Mathlib.Omega.{arith}
use Rattle.pair_merge.proofs.MergeLaws.{skipped_start, skipped_first, skipped_second, goes_on, nearer}
use Rattle.pair_merge.proofs.meeting.Goals as goal

pub loop-c-init : goal.loop-c-init
loop-c-init c =
    let args = c.args in
    skipped_start (take args.y.bases args.first.now) (take args.z.bases args.second.now) args.a args.b c.requires.2 c.requires.3

pub pass-c-requires : goal.pass-c-requires
pass-c-requires c =
    let args = c.args in
    (c.requires.0, goes_on (take args.y.bases args.first.now) args.a c.loop-c.c _ c.requires.2 c.loop-c.invariant.side₁, omega (arith, c.min.ensures))

pub loop-c-smaller-then-c-d-2 : goal.loop-c-smaller-then-c-d-2
loop-c-smaller-then-c-d-2 c =
    let args = c.args in
    omega (
      arith,
      nearer (take args.y.bases args.first.now) args.a c.loop-c.c c.pass-c.result _ c.min.result c.loop-c.invariant.side₁
          (omega (arith, c.min.ensures, c.if-c-d-2.true, c.loop-c-test.true))
          (omega (arith, c.min.ensures)) c.pass-c.ensures,
    )

pub loop-c-preserved-then-c-d-2 : goal.loop-c-preserved-then-c-d-2
loop-c-preserved-then-c-d-2 c =
    let args = c.args in
    skipped_first (take args.y.bases args.first.now) (take args.z.bases args.second.now) args.a args.b c.loop-c.c c.loop-c.d c.pass-c.result c.min.result
    c.loop-c.invariant (omega (arith, c.min.ensures)) (omega (arith, c.min.ensures, c.if-c-d-2.true)) c.pass-c.ensures

pub pass-d-requires : goal.pass-d-requires
pass-d-requires c =
    let args = c.args in
    (c.requires.1, goes_on (take args.z.bases args.second.now) args.b c.loop-c.d _ c.requires.3 c.loop-c.invariant.side₂, omega (arith, c.min-else-c-d-2.ensures))

pub loop-c-smaller : goal.loop-c-smaller
loop-c-smaller c =
    let args = c.args in
    omega (
      arith,
      nearer (take args.z.bases args.second.now) args.b c.loop-c.d c.pass-d.result _ c.min-else-c-d-2.result c.loop-c.invariant.side₂
          (omega (arith, c.min-else-c-d-2.ensures, c.if-c-d.true, c.if-c-d-2.false, c.if-d-ne0.true))
          (omega (arith, c.min-else-c-d-2.ensures)) c.pass-d.ensures,
    )

pub loop-c-preserved : goal.loop-c-preserved
loop-c-preserved c =
    let args = c.args in
    skipped_second (take args.y.bases args.first.now) (take args.z.bases args.second.now) args.a args.b c.loop-c.c c.loop-c.d c.pass-d.result c.min-else-c-d-2.result
    c.loop-c.invariant (omega (arith, c.min-else-c-d-2.ensures)) (omega (arith, c.min-else-c-d-2.ensures, c.if-c-d-2.false)) c.pass-d.ensures

pub returns-else-c-d-clause-skipped : goal.returns-else-c-d-clause-skipped
returns-else-c-d-clause-skipped c = c.loop-c.invariant

pub returns-else-d-ne0-clause-skipped : goal.returns-else-d-ne0-clause-skipped
returns-else-d-ne0-clause-skipped c = c.loop-c.invariant

pub returns-after-loop-c-clause-skipped : goal.returns-after-loop-c-clause-skipped
returns-after-loop-c-clause-skipped c = c.loop-c.invariant
