-- `line_filed::overlap_filed` meets its contract. Assumes nothing.
use Rattle.line_filed.proofs.overlap_filed.Goals as goal

pub returns : goal.returns
returns c = rw c.part.ensures at c.answer.ensures
