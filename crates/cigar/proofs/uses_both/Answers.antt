-- `cigar::uses_both` meets its contract. Assumes nothing.
use native.Mathlib.Omega.{arith}
use Rattle.cigar.proofs.PlaceLaws.{bit_fits, both_told}
use Rattle.cigar.proofs.uses_both.Goals as goal

pub overflow_mul-result : goal.overflow_mul-result
overflow_mul-result c = bit_fits _ _ (omega arith)

pub returns : goal.returns
returns c = both_told c.args.op
