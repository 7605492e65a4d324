-- `filed_ending::cut` meets its contract. The loop keeps: `begin` is where frame `k` begins, `begins` has the frames up to there, and from frame `k`
-- on the group ends as the whole does. Assumes nothing.
use Rattle.filed_ending.proofs.TurnLaws.{Going}
use Rattle.filed_ending.proofs.cut.Given as goal

abbrev pub invariant-loop-k : goal.invariant-loop-k
invariant-loop-k l = Going l.s l.begins l.k l.begin
