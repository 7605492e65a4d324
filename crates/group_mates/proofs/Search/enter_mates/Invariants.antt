-- `group_mates::Search::enter_mates` meets its contract. The loop keeps: the first i entries are the mates of those records. Assumes nothing.
use Rattle.group_mates.specs.Register.{mates_of}
use Rattle.group_mates.proofs.TableLaws.{Entered}
use Rattle.group_mates.proofs.Search.enter_mates.Given as goal

abbrev pub invariant-loop-i : goal.invariant-loop-i
invariant-loop-i l = Entered (mates_of l.self.frames.bytes.now l.self.frames.count) l.slot-items l.i
