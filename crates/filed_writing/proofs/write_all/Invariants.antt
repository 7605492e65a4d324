-- `filed_writing::write_all` meets its contract. The loop keeps: the output begins with the first k frames of the corrected group and is as it came behind
-- them, the numbers, with those of the pairs left, are those of all, and the rooms keep their sizes and hold the pair that they are said to. Assumes nothing.
use Rattle.group_applying.proofs.ApplyLaws.{rest}
use Rattle.filed_writing.specs.Turn.{SameSize, Holds}
use Rattle.filed_writing.proofs.TurnLaws.{Counting, Filling}
use Rattle.filed_writing.proofs.write_all.Given as goal

abbrev pub invariant-loop-k : goal.invariant-loop-k
invariant-loop-k l = record {
  filling : Filling l.w l.frames.bytes.now l.frames.count l.k l.initial.out l.out;
  counting : Counting l.w l.frames.bytes.now l.frames.count (rest l.frames.bytes.now l.frames.count l.k) l.sum;
  size : SameSize l.initial.rooms l.rooms;
  holds : Holds l.w l.frames.bytes.now l.frames.count l.rooms;
}
