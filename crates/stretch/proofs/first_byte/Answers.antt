-- `stretch::first_byte` meets its contract. Assumes nothing.
use native.Mathlib.Omega.{arith}
use lib.Count.{trailing_le}
use Rattle.stretch.proofs.HalfLaws.{byte_first}
use Rattle.stretch.proofs.first_byte.Goals as goal

pub overflow_cast-result : goal.overflow_cast-result
overflow_cast-result c = omega (arith, trailing_le 64 c.args.x)

pub returns : goal.returns
returns c = byte_first c.args.x c.ranges.x.fits c.requires
