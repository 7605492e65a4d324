use mir.Syntax.{w32}
use mir.Val.{SFits}
use mir.Facts.{to_z-of_z}
use borrow.Author.Rules.{rules}
use Rattle.fields.proofs.same_reference.Goals as goal

pub returns : goal.returns
returns c =
    let f : SFits w32 c.ref_id.result = search rules in
    let g : SFits w32 c.ref_id-2.result = search rules in
    (rw (to_z-of_z f, to_z-of_z g, c.ref_id.ensures, c.ref_id-2.ensures) at c.same_id.ensures)
