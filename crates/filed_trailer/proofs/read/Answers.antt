-- `filed_trailer::read` meets its contract. Assumes nothing.
use Prim.Native.Nat.{◌+◌}
use Rattle.filed_trailer.proofs.TrailerLaws.{one_byte}
use Rattle.filed_trailer.proofs.read.Goals as goal

pub returns : goal.returns
returns c =
    let args = c.args in
    let s = args.s.now in
    rw (c.u32_at.ensures, c.counts_at.ensures, c.u64_at.ensures, one_byte s (args.at + 4), one_byte s (args.at + 5))
