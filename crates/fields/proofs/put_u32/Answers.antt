-- `fields::put_u32` meets its contract: the library's bytes are those of the number. Assumes nothing.
use Rattle.fields.proofs.ByteLaws.{put_part}
use Rattle.fields.proofs.put_u32.Goals as goal

pub returns : goal.returns
returns c = rw (c.copy_from_slice.ensures.after, c.to_le_bytes.ensures) (put_part 4 c.args.d.now c.args.at c.args.v c.requires)
