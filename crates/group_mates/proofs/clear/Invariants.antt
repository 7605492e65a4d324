-- `group_mates::clear` meets its contract. The loop keeps: the chains of the records so far are empty. Assumes nothing.
use Rattle.group_mates.proofs.ChainLaws.{Cleared}
use Rattle.group_mates.proofs.clear.Given as goal

abbrev pub invariant-loop-d : goal.invariant-loop-d
invariant-loop-d l = Cleared l.key l.head l.d-index
