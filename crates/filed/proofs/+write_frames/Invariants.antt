-- `filed::write_frames` calls itself once, from the small rooms to the large ones: the measure is 1 for the small rooms and 0 for the large ones.
use mathlib.Core.Bool.{cond}
use Rattle.filed.proofs.+write_frames.Given as goal

abbrev pub decreases-write_frames : goal.decreases-write_frames
decreases-write_frames l = cond l.large 0 1
