-- `group_mates::link` meets its contract. The loop keeps: the first k records are linked, each to the one before it in its chain, and the heads are the last of
-- them. Assumes nothing.
use Rattle.group_mates.proofs.ChainLaws.{Linked}
use Rattle.group_mates.proofs.link.Given as goal

abbrev pub invariant-loop-k : goal.invariant-loop-k
invariant-loop-k l = Linked l.key l.head l.next l.n l.k
