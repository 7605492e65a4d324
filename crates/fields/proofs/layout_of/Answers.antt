-- `fields::layout_of` meets its contract: each number as its reader gives it. Assumes nothing.
use native.Mathlib.Omega.{arith}
use Rattle.fields.proofs.layout_of.Goals as goal

pub returns : goal.returns
returns c = (simp (c.from.ensures, c.from-operations.ensures, ← c.l_read_name.ensures, ← c.n_cigar_op.ensures, ← c.l_seq-count.ensures), omega (arith, c.from.ensures, c.from-operations.ensures))
