-- `group_verdicts::judge_all` meets its contract. The loop keeps: no pair before record i was refused, so what is left of the list decides the verdict. Assumes nothing.
use Rattle.group_mates.specs.Register.{mates_of}
use Rattle.group_verdicts.specs.Indexed.{indexed_at}
use Rattle.group_verdicts.proofs.JudgeLaws.{Left}
use Rattle.group_verdicts.proofs.judge_all.Given as goal

abbrev pub invariant-loop-i : goal.invariant-loop-i
invariant-loop-i l = Left (indexed_at l.frames.bytes.now) (mates_of l.frames.bytes.now l.frames.count) l.frames.count l.i
