-- `overlap_c::overlap_trailer_call` meets its contract. Assumes nothing.
use Rattle.overlap_c.proofs.FiledCallLaws.{trailer_made, trailer_refused}
use Rattle.overlap_c.proofs.overlap_trailer_call.Goals as goal

pub returns-in-Ok : goal.returns-in-Ok
returns-in-Ok c =
    let args = c.args in
    trailer_made args.frames.now args.agreement args.disagreement args.trailer.now _ c.file.result
    c.file.ensures _ c.in-Ok.is

pub returns-in-Err : goal.returns-in-Err
returns-in-Err c =
    let args = c.args in
    trailer_refused args.frames.now args.agreement args.disagreement args.trailer.now _ c.file.result
    c.file.ensures _ _ c.in-Err.is c.code.ensures
