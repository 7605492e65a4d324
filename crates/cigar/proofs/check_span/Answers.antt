-- `cigar::check_span` meets its contract. Assumes nothing.
use Prim.Native.Nat.{◌+◌}
use borrow.Author.Tests.{lt-ltb, le-ltb}
use Rattle.cigar.specs.Judge.{span_of}
use native.Mathlib.Omega.{arith}
use Rattle.cigar.proofs.check_span.Goals as goal
use Rattle.cigar.proofs.check_span.Goals.{then-start-gt-LAST-via-then-start-gt-LAST, then-start-gt-LAST-via-else-start-gt-LAST+then-start-uses}

pub returns-then-start-gt-LAST : goal.returns-then-start-gt-LAST
unfolding span_of
returns-then-start-gt-LAST c =
    elim c.then-start-gt-LAST.branch [
      | then-start-gt-LAST-via-then-start-gt-LAST w ↦ rw (lt-ltb 2147483646 (c.args.pos + c.args.uses) (omega (arith, w.if-start-gt-LAST.true)))
      | then-start-gt-LAST-via-else-start-gt-LAST+then-start-uses w ↦ rw (lt-ltb 2147483646 (c.args.pos + c.args.uses) (omega (arith, w.if-start-gt-LAST.false, w.if-start-uses.true)))
    ]

pub returns : goal.returns
unfolding span_of
returns c = rw (le-ltb 2147483646 (c.args.pos + c.args.uses) (omega arith))
