-- `filed_writing::treat_copies` meets its contract. Assumes nothing.
use Rattle.filed_writing.proofs.CopyLaws.{copies_cleared, copied}
use Rattle.filed_writing.proofs.treat_copies.Goals as goal

pub treat-requires : goal.treat-requires
treat-requires c =
    let args = c.args in
    copies_cleared args.w args.first.now args.second.now args.left.now args.right.now _ _ c.copy_from_slice.ensures.after c.copy_from_slice-2.ensures.after c.requires.0

pub returns : goal.returns
returns c =
    let args = c.args in
    copied args.w args.first.now args.second.now args.left.now args.right.now _ _ c.copy_from_slice.ensures.after c.copy_from_slice-2.ensures.after
    c.treat.result c.treat.new.first c.treat.new.second c.treat.ensures c.treat.auto.first c.treat.auto.second
