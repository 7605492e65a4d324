-- `filed_writing::no_pair` meets its contract. Assumes nothing.
use mathlib.Core.Path.{ap}
use Rattle.filed_writing.specs.Written.{applied}
use Rattle.filed_writing.proofs.no_pair.Goals as goal

pub returns : goal.returns
returns c = ap (applied 0 0) c.new.ensures
