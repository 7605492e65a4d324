-- `group_frames::cut` meets its contract. The loop keeps: `begin` is where frame `k` begins, `begins` has the frames up to there and keeps its
-- length, and the frames from `k` on give what all of them give. Assumes nothing.
use mathlib.Core.Path.{◌≡◌}
use lib.ListN.{length}
use Rattle.group_frames.proofs.FrameLaws.{Going}
use Rattle.group_frames.proofs.cut.Given as goal

abbrev pub invariant-loop-k : goal.invariant-loop-k
invariant-loop-k l = Going l.s l.begins l.k l.begin × (length l.begins ≡ length l.initial.begins)
