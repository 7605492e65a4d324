-- `strategy::treat` meets its contract. Assumes nothing.
use Rattle.strategy.specs.Rule.{treated}
use borrow.Author.Tests.{eq-eqb, ne_eqb}
use Rattle.strategy.proofs.treat.Goals as goal
use Rattle.strategy.proofs.treat.Goals.{then-x-eq-N-via-then-x-eq-N, then-x-eq-N-via-else-x-eq-N+then-y-eq-N}

pub returns-then-x-eq-N : goal.returns-then-x-eq-N
unfolding treated
returns-then-x-eq-N c =
    elim c.then-x-eq-N.branch [
      | then-x-eq-N-via-then-x-eq-N w ↦ rw (eq-eqb _ _ w.if-x-eq-N.true) c.untouched.ensures
      | then-x-eq-N-via-else-x-eq-N+then-y-eq-N w ↦ rw (ne_eqb _ _ w.if-x-eq-N.false, eq-eqb _ _ w.if-y-eq-N.true) c.untouched.ensures
    ]

pub returns-then-x-y : goal.returns-then-x-y
unfolding treated
returns-then-x-y c =
    rw (ne_eqb _ _ c.if-x-eq-N.false, ne_eqb _ _ c.if-y-eq-N.false, eq-eqb _ _ c.if-x-y.true) c.process_agreement.ensures

pub returns : goal.returns
unfolding treated
returns c =
    rw (ne_eqb _ _ c.if-x-eq-N.false, ne_eqb _ _ c.if-y-eq-N.false, ne_eqb _ _ c.if-x-y.false) c.process_disagreement.ensures
