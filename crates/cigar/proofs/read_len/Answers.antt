-- `cigar::read_len` meets its contract. Assumes nothing.
use native.Mathlib.Omega.{arith}
use Rattle.cigar.proofs.PlaceLaws.{read_told}
use Rattle.cigar.proofs.read_len.Goals as goal

pub returns-then-uses-eq1 : goal.returns-then-uses-eq1
returns-then-uses-eq1 c = ((read_told c.args.op).0 c.if-uses-eq1.true, omega arith)

pub returns-else-uses-eq1 : goal.returns-else-uses-eq1
returns-else-uses-eq1 c = ((read_told c.args.op).1 c.if-uses-eq1.false, omega arith)
