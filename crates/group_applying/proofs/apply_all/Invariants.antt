-- `group_applying::apply_all` meets its contract. The loop keeps: the pairs before record i are corrected and counted, and correcting those left from here
-- gives what correcting all gives from the start; the room keeps its length. Assumes nothing.
use Rattle.group_applying.proofs.ApplyLaws.{Applying, rest}
use Rattle.group_applying.proofs.apply_all.Given as goal

abbrev pub invariant-loop-i : goal.invariant-loop-i
invariant-loop-i l = Applying l.w l.initial.buf l.initial.sum.stats l.n (rest l.initial.buf l.n l.i) l.buf l.sum.stats l.sum.pairs l.sum.overlapping
