use mathlib.Core.Path.{refl}
use Prim.Native.Nat.{◌<◌}
use lib.ListN.{get_or, take}
use Rattle.std.proofs.lemmas.Result.{err_from_is_err_and}
use Rattle.group_mates.specs.Register.{mates_of}
use Rattle.group_verdicts.specs.Indexed.{indexed_at}
use Rattle.group_verdicts.proofs.JudgeLaws.{none_of, front_long, front_mate, entry_in, left_start, left_alone, left_passed, left_refused, left_end}
use native.Mathlib.Omega.{arith}
use Rattle.group_verdicts.proofs.judge_all.Goals as goal
use Rattle.group_verdicts.proofs.judge_all.Goals.{in-Some+in_ok-judge_at, in_default}

pub loop-i-init : goal.loop-i-init
loop-i-init c =
    let frames = c.args.frames in
    left_start (indexed_at frames.bytes.now) (mates_of frames.bytes.now frames.count) frames.count

pub judge_at-requires : goal.judge_at-requires
judge_at-requires c =
    let frames = c.args.frames in
    let i = c.loop-i.i in
    let below : i < frames.count = omega (arith, c.loop-i-test.true, front_long frames.bytes.now c.args.mate.now frames.count c.requires.0.few c.requires.1) in
    let m = get_or (take frames.count c.args.mate.now) i 0 in
    let is = front_mate frames.bytes.now c.args.mate.now frames.count i c.requires.1 below in
    (c.requires.0, below, entry_in frames.bytes.now frames.count i m c.in-Some.j is c.in-Some.ensures)

pub returns-in_err-judge_at : goal.returns-in_err-judge_at
returns-in_err-judge_at c =
    let frames = c.args.frames in
    let s = frames.bytes.now in
    let i = c.loop-i.i in
    let below : i < frames.count = omega (arith, c.loop-i-test.true, front_long frames.bytes.now c.args.mate.now frames.count c.requires.0.few c.requires.1) in
    let m = get_or (take frames.count c.args.mate.now) i 0 in
    let is = front_mate frames.bytes.now c.args.mate.now frames.count i c.requires.1 below in
    let p = err_from_is_err_and c.from_residual.result c.from_residual.ensures.1 in
    rw (p.1, p.2) (left_refused (indexed_at s) (mates_of s frames.count) frames.count i c.loop-i.invariant below
    m is c.in-Some.j c.in-Some.ensures
    c.judge_at.result _ c.judge_at.ensures c.in_err-judge_at.was _ refl)

pub loop-i-preserved : goal.loop-i-preserved
loop-i-preserved c =
    let frames = c.args.frames in
    let s = frames.bytes.now in
    let i = c.loop-i.i in
    let below : i < frames.count = omega (arith, c.loop-i-test.true, front_long frames.bytes.now c.args.mate.now frames.count c.requires.0.few c.requires.1) in
    let m = get_or (take frames.count c.args.mate.now) i 0 in
    let is = front_mate frames.bytes.now c.args.mate.now frames.count i c.requires.1 below in
    elim c.match-checked_sub.branch [
      | in-Some+in_ok-judge_at w ↦ left_passed (indexed_at s) (mates_of s frames.count) frames.count i c.loop-i.invariant below m is
          w.in-Some.j w.in-Some.ensures w.judge_at.result _ w.judge_at.ensures w.in_ok-judge_at.was refl
      | in_default w ↦ left_alone (indexed_at s) (mates_of s frames.count) frames.count i c.loop-i.invariant below m is
          (none_of m c.checked_sub.result c.checked_sub.ensures w.in_default.not-Some)
    ]

pub returns : goal.returns
returns c =
    let frames = c.args.frames in
    left_end (indexed_at frames.bytes.now) (mates_of frames.bytes.now frames.count) frames.count c.loop-i.i c.loop-i.invariant
    (omega (arith, c.loop-i-test.false, front_long frames.bytes.now c.args.mate.now frames.count c.requires.0.few c.requires.1))
