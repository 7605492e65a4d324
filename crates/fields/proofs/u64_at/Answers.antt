-- `fields::u64_at` meets its contract: the library's number is that of the bytes. Assumes nothing.
use mathlib.Core.Path.{◌∙◌}
use native.Mathlib.Omega.{arith}
use Rattle.fields.proofs.ByteLaws.{number_of_part}
use Rattle.fields.proofs.u64_at.Goals as goal

pub returns : goal.returns
returns c = (rw c.bytes_at.ensures at c.from_le_bytes.ensures) ∙ number_of_part 8 7 c.args.s.now c.args.at (omega arith)
