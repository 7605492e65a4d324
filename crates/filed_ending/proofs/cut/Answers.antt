use mathlib.Core.Path.{◌≡◌}
use native.Mathlib.Omega.{arith}
use Rattle.std.proofs.lemmas.Result.{err_from_is_err_and}
use Rattle.filed_ending.proofs.TurnLaws.{going_start, said_missing, said_end, said_many, said_refused, going_next}
use Rattle.filed_ending.proofs.cut.Goals as goal

pub loop-k-init : goal.loop-k-init
loop-k-init c = going_start c.args.s.now c.args.begins.now c.requires

pub returns-in_err-ends_at : goal.returns-in_err-ends_at
returns-in_err-ends_at c =
    let p = err_from_is_err_and c.from_residual.result c.from_residual.ensures.1 in
    rw (p.1, p.2) (said_missing _ _ _ _ c.loop-k.invariant _ c.ends_at.ensures _ c.in_err-ends_at.was, tt)

pub returns-then-branch : goal.returns-then-branch
returns-then-branch c = said_end _ _ _ _ c.loop-k.invariant _ c.ends_at.ensures _ c.in_ok-ends_at.was c.if-branch.true

pub returns-in_err-begin : goal.returns-in_err-begin
returns-in_err-begin c =
    let p = err_from_is_err_and c.from_residual-in_err-begin.result c.from_residual-in_err-begin.ensures.1 in
    rw (p.1, p.2) (said_refused _ _ _ _ c.loop-k.invariant _ c.ends_at.ensures _ c.in_ok-ends_at.was c.if-branch.false c.loop-k-test.true _ c.frame_at.ensures _ c.in_err-begin.was, tt)

pub loop-k-preserved : goal.loop-k-preserved
loop-k-preserved c =
    going_next _ _ _ _ c.loop-k.invariant _ c.ends_at.ensures _ c.in_ok-ends_at.was c.if-branch.false c.loop-k-test.true _ c.frame_at.ensures _ c.in_ok-begin.was

pub returns-in_err-ends_at-2 : goal.returns-in_err-ends_at-2
returns-in_err-ends_at-2 c =
    let p = err_from_is_err_and c.from_residual-in_err-ends_at-2.result c.from_residual-in_err-ends_at-2.ensures.1 in
    rw (p.1, p.2) (said_missing _ _ _ _ c.loop-k.invariant _ c.ends_at-2.ensures _ c.in_err-ends_at-2.was, tt)

pub returns-then-branch-2 : goal.returns-then-branch-2
returns-then-branch-2 c =
    let full : c.loop-k.k ≡ 256 = omega arith in
    rw full at (said_end _ _ _ _ c.loop-k.invariant _ c.ends_at-2.ensures _ c.in_ok-ends_at-2.was c.if-branch-2.true)

pub returns : goal.returns
returns c = (said_many _ _ _ _ c.loop-k.invariant _ c.ends_at-2.ensures _ c.in_ok-ends_at-2.was c.if-branch-2.false (omega arith), tt)
