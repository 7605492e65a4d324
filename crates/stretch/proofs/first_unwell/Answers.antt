-- `stretch::first_unwell` meets its contract. Assumes nothing.
use Rattle.stretch.proofs.HalfLaws.{stretch_is}
use Rattle.stretch.proofs.first_unwell.Goals as goal

pub returns : goal.returns
returns c = stretch_is _ _ _ _ c.unwell.ensures c.first_marked.ensures
