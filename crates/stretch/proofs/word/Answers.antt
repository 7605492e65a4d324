-- `stretch::word` meets its contract. Assumes nothing.
use native.Mathlib.Omega.{arith}
use Rattle.stretch.proofs.WordLaws.{holds_even, holds_odd}
use Rattle.stretch.proofs.word.Goals as goal

pub returns-then-odd-eq0 : goal.returns-then-odd-eq0
returns-then-odd-eq0 c =
    let args = c.args in
    rw c.u64_at.ensures (holds_even args.s.now (λ i. (c.type_inv.s i).fits) args.at args.odd c.if-odd-eq0.true)

pub returns-else-odd-eq0 : goal.returns-else-odd-eq0
returns-else-odd-eq0 c =
    let args = c.args in
    rw (c.u64_at-else-odd-eq0-2.ensures, c.u64_at-else-odd-eq0.ensures) (holds_odd args.s.now (λ i. (c.type_inv.s i).fits) args.at args.odd (omega (arith, c.if-odd-eq0.false, c.requires.0)))
