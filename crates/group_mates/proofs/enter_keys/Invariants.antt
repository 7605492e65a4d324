-- `group_mates::enter_keys` meets its contract. The loop keeps: the first k entries are the keys of those records. Assumes nothing.
use Rattle.group_mates.proofs.TableLaws.{Entered, keys_of}
use Rattle.group_mates.proofs.enter_keys.Given as goal

abbrev pub invariant-loop-k : goal.invariant-loop-k
invariant-loop-k l = Entered (keys_of l.frames.bytes.now) l.slot-items l.k
