-- `fields::i32_at` meets its contract: the library's signed number is that of the bytes. Assumes nothing.
use mathlib.Core.Path.{◌∙◌, ap}
use mir.Syntax.{w32}
use mir.Val.{SFits}
use mir.Facts.{to_z-of_z}
use native.Mathlib.Omega.{arith}
use borrow.Author.Rules.{rules}
use Rattle.fields.specs.Number.{signed32}
use Rattle.fields.proofs.ByteLaws.{number_of_part, signed_is}
use Rattle.fields.proofs.i32_at.Goals as goal

pub returns : goal.returns
returns c =
    let f : SFits w32 c.from_le_bytes.result = search rules in
    to_z-of_z f ∙ (rw c.bytes_at.ensures at c.from_le_bytes.ensures) ∙ signed_is _ ∙ ap signed32 (number_of_part 4 3 c.args.s.now c.args.at (omega arith))
