-- `group_frames::frame_at` meets its contract. Assumes nothing.
use Rattle.group_frames.proofs.FrameLaws.{frame_short, frame_past, frame_checked}
use Rattle.std.proofs.lemmas.Result.{err_from_is_err_and}
use native.Mathlib.Omega.{arith}
use Rattle.group_frames.proofs.frame_at.Goals as goal

pub returns-then-left-lt4 : goal.returns-then-left-lt4
returns-then-left-lt4 c =
    let args = c.args in
    frame_short args.s.now args.begin args.k (omega arith) c.if-left-lt4.true

pub returns-then-left-size : goal.returns-then-left-size
returns-then-left-size c =
    let args = c.args in
    frame_past args.s.now args.begin args.k (omega arith) c.if-left-lt4.false c.u32_at-size.result
    c.u32_at-size.ensures c.if-left-size.true

pub returns-in_err-check_record : goal.returns-in_err-check_record
returns-in_err-check_record c =
    let args = c.args in
    let p = err_from_is_err_and c.from_residual.result c.from_residual.ensures.1 in
    rw (p.1, p.2) (frame_checked args.s.now args.begin args.k (omega arith) c.if-left-lt4.false c.u32_at-size.result
    c.u32_at-size.ensures c.if-left-size.false c.check_record.result _ c.check_record.ensures
    c.in_err-check_record.was)

pub returns : goal.returns
returns c =
    let args = c.args in
    frame_checked args.s.now args.begin args.k (omega arith) c.if-left-lt4.false c.u32_at-size.result
    c.u32_at-size.ensures c.if-left-size.false c.check_record.result _ c.check_record.ensures
    c.in_ok-check_record.was
