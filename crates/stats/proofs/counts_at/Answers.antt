-- `stats::counts_at` meets its contract. Assumes nothing.
use Rattle.stats.proofs.counts_at.Goals as goal

pub returns : goal.returns
returns c =
    rw (c.u64_at.ensures, c.u64_at-2.ensures, c.u64_at-3.ensures, c.u64_at-4.ensures)
