-- `fields::u32_at` meets its contract: the library's number is that of the bytes. Assumes nothing.
use mathlib.Core.Path.{◌∙◌}
use native.Mathlib.Omega.{arith}
use Rattle.fields.proofs.ByteLaws.{number_of_part}
use Rattle.fields.proofs.u32_at.Goals as goal

pub returns : goal.returns
returns c = (rw c.bytes_at.ensures at c.from_le_bytes.ensures) ∙ number_of_part 4 3 c.args.s.now c.args.at (omega arith)
