-- `stretch::unwell` meets its contract. Assumes nothing.
use Rattle.stretch.proofs.HalfLaws.{unwell_marks}
use Rattle.stretch.proofs.unwell.Goals as goal

pub returns : goal.returns
returns c = unwell_marks c.args.a c.args.b
