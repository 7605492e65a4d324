use Prim.Native.Nat.{◌<◌}
use mathlib.Core.Path.{ap, ◌∙◌}
use lib.ListN.{length, get_or, take}
use Rattle.stats.specs.Counts.{plus}
use Rattle.group_verdicts.proofs.JudgeLaws.{none_of, front_long, front_mate}
use Rattle.group_applying.proofs.ApplyLaws.{applying_start, applying_alone, given, few_more, adds, applying_next, applying_end}
use Rattle.group_applying.proofs.PutLaws.{overlap_small}
use native.Mathlib.Omega.{arith}
use Rattle.group_applying.proofs.apply_all.Goals as goal
use Rattle.group_applying.proofs.apply_all.Goals.{in-Some, in_default}

pub loop-i-init : goal.loop-i-init
loop-i-init c =
    let args = c.args in
    applying_start args.w args.buf.now args.stats args.n c.requires.0.few c.requires.3 c.requires.4

pub apply_pair-met-requires : goal.apply_pair-met-requires
apply_pair-met-requires c =
    let args = c.args in
    let loop = c.loop-i in
    let sum = loop.sum in
    let below : loop.i < args.n = omega (arith, c.loop-i-test.true, front_long args.buf.now args.mate.now args.n c.requires.0.few c.requires.1) in
    let m = get_or (take args.n args.mate.now) loop.i 0 in
    let is = front_mate args.buf.now args.mate.now args.n loop.i c.requires.1 below in
    given args.w args.buf.now args.stats args.n loop.i loop.buf sum.stats sum.pairs sum.overlapping
    loop.invariant below m is
    c.in-Some.j c.in-Some.ensures args.begins.now c.requires.0 (length loop.room) (omega (arith, loop.auto.room, c.requires.2))

pub plus-sum-requires : goal.plus-sum-requires
plus-sum-requires c =
    let args = c.args in
    let loop = c.loop-i in
    let sum = loop.sum in
    let below : loop.i < args.n = omega (arith, c.loop-i-test.true, front_long args.buf.now args.mate.now args.n c.requires.0.few c.requires.1) in
    let m = get_or (take args.n args.mate.now) loop.i 0 in
    let is = front_mate args.buf.now args.mate.now args.n loop.i c.requires.1 below in
    let few = few_more args.w args.buf.now args.stats args.n loop.i loop.buf sum.stats sum.pairs sum.overlapping loop.invariant below m is c.in-Some.j c.in-Some.ensures in
    let all = adds args.w args.buf.now args.stats args.n loop.i loop.buf sum.stats sum.pairs sum.overlapping loop.invariant below m is c.in-Some.j c.in-Some.ensures
    args.begins.now c.requires.0 c.apply_pair-met.new.buf c.apply_pair-met.result c.apply_pair-met.ensures in (
      omega (arith, few, c.of_pair.ensures.0),
      omega (arith, few, loop.invariant.fewer, c.of_pair.ensures.1, overlap_small c.apply_pair-met.result.shared),
      rw c.of_pair.ensures.2 all,
    )

pub loop-i-preserved : goal.loop-i-preserved
loop-i-preserved c =
    let args = c.args in
    let loop = c.loop-i in
    let sum = loop.sum in
    let below : loop.i < args.n = omega (arith, c.loop-i-test.true, front_long args.buf.now args.mate.now args.n c.requires.0.few c.requires.1) in
    let m = get_or (take args.n args.mate.now) loop.i 0 in
    let is = front_mate args.buf.now args.mate.now args.n loop.i c.requires.1 below in
    elim c.match-checked_sub.branch [
      | in-Some w ↦ rw (w.buf-is, w.sum-is, w.plus-sum.ensures.0, w.plus-sum.ensures.1, w.of_pair.ensures.0)
          (applying_next args.w args.buf.now args.stats args.n loop.i loop.buf sum.stats sum.pairs sum.overlapping loop.invariant below m is
          w.in-Some.j w.in-Some.ensures args.begins.now c.requires.0 w.apply_pair-met.new.buf w.apply_pair-met.result w.apply_pair-met.ensures
          w.of_pair.result.overlapping w.of_pair.ensures.1 w.plus-sum.result.stats (w.plus-sum.ensures.2 ∙ ap (plus sum.stats) w.of_pair.ensures.2))
      | in_default w ↦ rw (w.buf-is, w.sum-is)
          (applying_alone args.w args.buf.now args.stats args.n loop.i loop.buf sum.stats sum.pairs sum.overlapping loop.invariant below m is
          (none_of m c.checked_sub.result c.checked_sub.ensures w.in_default.not-Some))
    ]

pub returns : goal.returns
returns c =
    let args = c.args in
    let loop = c.loop-i in
    applying_end args.w args.buf.now args.stats args.n loop.i loop.buf _ loop.invariant
    (omega (arith, c.loop-i-test.false, front_long args.buf.now args.mate.now args.n c.requires.0.few c.requires.1))
