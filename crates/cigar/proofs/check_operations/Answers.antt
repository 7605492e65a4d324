-- `cigar::check_operations` meets its contract. Assumes nothing.
use Rattle.std.specs.Prelude.{Result, Ok, Err, ℕ}
use mathlib.Core.Path.{◌≡◌, refl, ◌∙◌}
use native.Mathlib.Omega.{arith}
use borrow.Author.Rules.{rules}
use Rattle.refusal.specs.declared.Refusal.TheVariants.{OperationCode}
use Rattle.cigar.specs.declared.Totals.{Totals}
use Rattle.cigar.specs.Judge.{operations_of}
use Rattle.cigar.proofs.JudgeLaws.{judged_as, judged_empty, judged_none, judged_total, judged_wrong}
use Rattle.cigar.proofs.check_operations.Goals as goal
use Rattle.cigar.proofs.check_operations.Goals.{then-y-eq0-via-then-y-eq0, then-y-eq0-via-else-y-eq0+then-y-lt4, then-y-eq0-via-else-y-eq0+else-y-lt4+then-totals-y}

pub returns-in_err-totals : goal.returns-in_err-totals
returns-in_err-totals c = go c.walk_operations-walked.result refl
  where
    go : (w : Result Totals ℕ) → c.walk_operations-walked.result ≡ w → c.from_residual.result ≡ operations_of c.args.y c.args.s.now c.args.place
    go (Ok t) e = absurd (search (rules, e))
    go (Err i) e =
        let r : c.from_residual.result ≡ Err (OperationCode c.args.place i) = search (rules, e) in
        r ∙ judged_as c.args.y c.args.s.now c.args.place c.walk_operations-walked.result (Err i) c.walk_operations-walked.ensures e

pub returns-then-y-eq0 : goal.returns-then-y-eq0
returns-then-y-eq0 c =
    let args = c.args in
    let totals = c.in_ok-totals.totals in
    let w = c.walk_operations-walked.result in
    let e = c.walk_operations-walked.ensures in
    let f : c.walk_operations-walked.result ≡ Ok c.in_ok-totals.totals = search rules in
    elim c.then-y-eq0.branch [
      | then-y-eq0-via-then-y-eq0 v ↦ judged_empty args.y args.s.now args.place totals.read totals.reference w e f v.if-y-eq0.true
      | then-y-eq0-via-else-y-eq0+then-y-lt4 v ↦ judged_none args.y args.s.now args.place totals.read totals.reference w e f (omega (arith, c.requires.0.bases, c.requires.0.qualities)) v.if-y-lt4.true
      | then-y-eq0-via-else-y-eq0+else-y-lt4+then-totals-y v ↦ judged_total args.y args.s.now args.place totals.read totals.reference w e f v.if-totals-y.true
    ]

pub returns : goal.returns
returns c =
    let args = c.args in
    let totals = c.in_ok-totals.totals in
    let f : c.walk_operations-walked.result ≡ Ok c.in_ok-totals.totals = search rules in
    judged_wrong args.y args.s.now args.place totals.read totals.reference c.walk_operations-walked.result c.walk_operations-walked.ensures f c.if-y-eq0.false
    (omega (arith, c.requires.0.bases, c.requires.0.qualities)) c.if-y-lt4.false c.if-totals-y.false
