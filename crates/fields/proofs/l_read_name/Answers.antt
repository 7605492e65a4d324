-- `fields::l_read_name` meets its contract: one byte holds itself. Assumes nothing.
use native.Mathlib.Omega.{arith}
use Rattle.fields.specs.Number.{unsigned}
use Rattle.fields.proofs.l_read_name.Goals as goal

pub returns : goal.returns
unfolding unsigned
returns c = omega arith
