-- `group_frames::Frames::record` meets its contract: the part that the table names is the record. Assumes nothing.
use Rattle.group_frames.proofs.PlaceLaws.{at_part, at_order, at_in}
use native.Mathlib.Omega.{arith}
use Rattle.group_frames.proofs.Frames.record.Goals as goal

pub overflow_add-start : goal.overflow_add-start
overflow_add-start c =
    let pre = c.requires in
    omega (arith, at_order _ _ _ pre.0 _ pre.1, at_in _ _ _ pre.0 _ pre.1)

pub slice_bounds-result-count : goal.slice_bounds-result-count
slice_bounds-result-count c =
    let pre = c.requires in
    at_order _ _ _ pre.0 _ pre.1

pub slice_bounds-result-start : goal.slice_bounds-result-start
slice_bounds-result-start c =
    let pre = c.requires in
    at_order _ _ _ pre.0 _ pre.1

pub slice_bounds-result-end : goal.slice_bounds-result-end
slice_bounds-result-end c =
    let pre = c.requires in
    at_in _ _ _ pre.0 _ pre.1

pub returns : goal.returns
returns c =
    let pre = c.requires in
    at_part _ _ _ pre.0 _ pre.1
