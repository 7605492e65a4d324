-- `group_mates::Search::holder_of` meets its contract. The loop keeps: c is 0 or one more than a record of the chain, whoever has the registration among all
-- records has it among the first c, and the search may end at `end`, which c has not passed. The measure is c. Assumes nothing.
use Rattle.group_mates.specs.Role.{role_number}
use Rattle.group_mates.proofs.ChainLaws.{Walking, Ending}
use Rattle.group_mates.proofs.Search.holder_of.Given as goal

abbrev pub invariant-loop-c : goal.invariant-loop-c
invariant-loop-c l =
    Ending l.self.frames.bytes.now l.self.key.now (role_number l.role) l.i l.end
    × Walking l.self.frames.bytes.now l.self.key.now l.self.frames.count (role_number l.role) l.i l.end l.c

abbrev pub decreases-loop-c : goal.decreases-loop-c
decreases-loop-c l = l.c
