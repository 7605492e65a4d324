-- `filed_trailer::stamp` meets its contract. Assumes nothing.
use native.Mathlib.Omega.{arith}
use lib.ListN.{length-set}
use Rattle.filed_trailer.proofs.stamp.Goals as goal

pub put_counts-requires : goal.put_counts-requires
put_counts-requires c = omega (arith, length-set c.args.t.now 4 c.from.result)

pub returns : goal.returns
returns c = rw c.from.ensures at c.put_counts.ensures
