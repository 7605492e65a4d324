use native.Mathlib.Omega.{arith}
use lib.ListN.{take}
use lib.Seq.{length-take-le}
use Rattle.cigar.proofs.PlaceLaws.{ops_short}
use Rattle.cigar.proofs.CursorLaws.{kept_refl, turned_stands, turn_join, turn_skip}
use Rattle.cigar.proofs.settle.Goals as goal

pub returns-then-c-ne0 : goal.returns-then-c-ne0
returns-then-c-ne0 c =
    record { kept = kept_refl _ c.args.c; within = c.requires.1.within; done = λ h. absurd (c.if-c-ne0.true h) }

pub loop-cur-init : goal.loop-cur-init
loop-cur-init c =
    let a = c.args in
    (omega (arith, length-take-le a.end a.s.now c.requires.0, c.requires.1.within), kept_refl _ a.c)

pub join-cur-requires : goal.join-cur-requires
join-cur-requires c =
    let n = turned_stands c.args.s.now c.args.end c.requires.0 c.args.c c.loop-cur.cur c.loop-cur.invariant c.requires.1 in
    (omega arith, omega (arith, n.reads), c.operation_at-op.ensures.1)

pub loop-cur-smaller-then-uses_both : goal.loop-cur-smaller-then-uses_both
loop-cur-smaller-then-uses_both c = rw c.join-cur.ensures (omega arith)

pub loop-cur-preserved-then-uses_both : goal.loop-cur-preserved-then-uses_both
loop-cur-preserved-then-uses_both c =
    rw c.join-cur.ensures
    (turn_join c.args.s.now c.args.end c.requires.0 c.args.c c.loop-cur.cur c.loop-cur.invariant
    c.operation_at-op.result c.operation_at-op.ensures.0 (omega arith)
    (c.uses_both.ensures.0 c.if-uses_both.true))

pub returns-then-cur-ne0 : goal.returns-then-cur-ne0
returns-then-cur-ne0 c =
    let e = length-take-le c.args.end c.args.s.now c.requires.0 in
    record { kept = c.loop-cur.invariant.1; within = omega (arith, e, c.loop-cur.invariant.0); done = λ h. absurd (c.if-cur-ne0.true h) }

pub skip-cur-requires : goal.skip-cur-requires
skip-cur-requires c =
    let n = turned_stands c.args.s.now c.args.end c.requires.0 c.args.c c.loop-cur.cur c.loop-cur.invariant c.requires.1 in
    (omega arith, omega (arith, n.reads), omega (arith, n.refs), c.operation_at-op.ensures.1)

pub loop-cur-smaller : goal.loop-cur-smaller
loop-cur-smaller c = rw c.skip-cur.ensures (omega arith)

pub loop-cur-preserved : goal.loop-cur-preserved
loop-cur-preserved c =
    rw c.skip-cur.ensures
    (turn_skip c.args.s.now c.args.end c.requires.0 c.args.c c.loop-cur.cur c.loop-cur.invariant
    c.operation_at-op.result c.operation_at-op.ensures.0 (omega arith)
    (c.uses_both.ensures.1 c.if-uses_both.false) c.if-cur-ne0.false)

pub returns : goal.returns
returns c =
    let end = c.args.end in
    let cig = take end c.args.s.now in
    let e = length-take-le end c.args.s.now c.requires.0 in
    record {
      kept = c.loop-cur.invariant.1;
      within = omega (arith, e, c.loop-cur.invariant.0);
      done = λ h. ops_short cig c.loop-cur.cur.at (omega (arith, e));
    }
