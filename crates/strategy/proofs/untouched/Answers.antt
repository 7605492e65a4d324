-- `strategy::untouched` meets its contract. Assumes nothing.
use Rattle.strategy.proofs.untouched.Goals as goal

pub returns : goal.returns
returns c = rw c.new.ensures
