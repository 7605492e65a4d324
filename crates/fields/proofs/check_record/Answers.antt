-- `fields::check_record` meets its contract: each answer by the tests that led to it. Assumes nothing.
use borrow.Author.Tests.{lt-ltb, le-ltb}
use Rattle.fields.specs.Check.{check_of}
use Rattle.fields.proofs.check_record.Goals as goal

pub returns-then-s-lt-FIXED : goal.returns-then-s-lt-FIXED
unfolding check_of
returns-then-s-lt-FIXED c = simp (lt-ltb _ _ c.if-s-lt-FIXED.true)

pub returns-then-s-gt-LONGEST : goal.returns-then-s-gt-LONGEST
unfolding check_of
returns-then-s-gt-LONGEST c = simp (le-ltb _ _ c.if-s-lt-FIXED.false, lt-ltb _ _ c.if-s-gt-LONGEST.true)

pub returns-then-s-y : goal.returns-then-s-y
unfolding check_of
returns-then-s-y c =
    let e = c.layout_of-y.ensures.0 in
    simp (
      le-ltb _ _ c.if-s-lt-FIXED.false,
      le-ltb _ _ c.if-s-gt-LONGEST.false,
      lt-ltb _ _ (rw e at c.if-s-y.true),
    )

pub returns-then-s-y-2 : goal.returns-then-s-y-2
unfolding check_of
returns-then-s-y-2 c =
    let e = c.layout_of-y.ensures.0 in
    simp (
      le-ltb _ _ c.if-s-lt-FIXED.false,
      le-ltb _ _ c.if-s-gt-LONGEST.false,
      le-ltb _ _ (rw e at c.if-s-y.false),
      lt-ltb _ _ (rw e at c.if-s-y-2.true),
    )

pub returns : goal.returns
unfolding check_of
returns c =
    let e = c.layout_of-y.ensures.0 in
    simp (
      le-ltb _ _ c.if-s-lt-FIXED.false,
      le-ltb _ _ c.if-s-gt-LONGEST.false,
      le-ltb _ _ (rw e at c.if-s-y.false),
      le-ltb _ _ (rw e at c.if-s-y-2.false),
      e,
    )
