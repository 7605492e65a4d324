-- `cigar::skip` meets its contract. Assumes nothing.
use Rattle.cigar.proofs.skip.Goals as goal

pub returns : goal.returns
returns c = rw (c.read_len.ensures.0, c.ref_len.ensures.0)
