use mir.Syntax.{w32}
use mir.Val.{SFits}
use mir.Facts.{to_z-of_z}
use mathlib.Core.Path.{ap, ◌∙◌}
use Rattle.fields.specs.Position.{position_of}
use borrow.Author.Rules.{rules}
use Rattle.fields.proofs.start_of.Goals as goal

pub returns : goal.returns
returns c = let f : SFits w32 c.pos.result = search rules in (rw (to_z-of_z f) at c.position_of.ensures) ∙ ap position_of c.pos.ensures
