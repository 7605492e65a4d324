use native.Mathlib.Omega.{arith}
use Rattle.filed.proofs.ShortLaws.{short_enough}
use Rattle.filed.proofs.+write_frames.Goals as goal

pub write_in-requires : goal.write_in-requires
write_in-requires t c =
    (c.requires.0, c.requires.1, omega arith, c.requires.2, short_enough _ _ _ c.requires.0 _ (omega arith), c.requires.3, omega arith)
