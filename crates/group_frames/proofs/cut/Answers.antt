use mathlib.Core.Path.{refl, ◌∙◌}
use lib.ListN.{length-set}
use Rattle.group_frames.proofs.FrameLaws.{going_start, said_none, said_refused, going_next, said_many, said_all}
use Rattle.std.proofs.lemmas.Result.{err_from_is_err_and}
use native.Mathlib.Omega.{arith}
use Rattle.group_frames.proofs.cut.Goals as goal

pub loop-k-init : goal.loop-k-init
loop-k-init c =
    let args = c.args in
    (going_start args.s.now args.begins.now c.requires, refl)

pub shape_of-begins-then-s-begin : goal.shape_of-begins-then-s-begin
shape_of-begins-then-s-begin c =
    let args = c.args in
    c.loop-k.invariant.1 ∙ length-set args.begins.now 0 0

pub returns-then-s-begin : goal.returns-then-s-begin
returns-then-s-begin c =
    let args = c.args in
    let loop = c.loop-k in
    (said_none args.s.now loop.begins loop.k loop.begin loop.invariant.0 c.if-s-begin.true, loop.invariant.0.placed)

pub returns-in_err-begin : goal.returns-in_err-begin
returns-in_err-begin c =
    let loop = c.loop-k in
    let p = err_from_is_err_and c.from_residual.result c.from_residual.ensures.1 in
    rw (p.1, p.2) (
      said_refused c.args.s.now loop.begins loop.k loop.begin loop.invariant.0 c.loop-k-test.true
          (omega arith) c.frame_at.result _ c.frame_at.ensures c.in_err-begin.was _ refl,
      tt,
    )

pub bounds-begins-k : goal.bounds-begins-k
bounds-begins-k c = omega (arith, c.loop-k.invariant.0.placed.wide)

pub loop-k-preserved : goal.loop-k-preserved
loop-k-preserved c =
    let loop = c.loop-k in (
      going_next c.args.s.now loop.begins loop.k loop.begin loop.invariant.0 c.loop-k-test.true (omega arith)
          c.frame_at.result _ c.frame_at.ensures c.in_ok-begin.was _ refl,
      length-set loop.begins _ _ ∙ loop.invariant.1,
    )

pub shape_of-begins-then-begin-s : goal.shape_of-begins-then-begin-s
shape_of-begins-then-begin-s c =
    let args = c.args in
    c.loop-k.invariant.1 ∙ length-set args.begins.now 0 0

pub returns-then-begin-s : goal.returns-then-begin-s
returns-then-begin-s c =
    let args = c.args in
    let loop = c.loop-k in
    (said_many args.s.now loop.begins loop.k loop.begin loop.invariant.0 (omega arith) c.if-begin-s.true, omega arith)

pub shape_of-begins : goal.shape_of-begins
shape_of-begins c =
    let args = c.args in
    c.loop-k.invariant.1 ∙ length-set args.begins.now 0 0

pub returns : goal.returns
returns c =
    let args = c.args in
    let loop = c.loop-k in
    said_all args.s.now loop.begins loop.k loop.begin loop.invariant.0 (omega arith) c.if-begin-s.false
