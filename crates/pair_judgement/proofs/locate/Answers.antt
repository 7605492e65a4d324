-- `pair_judgement::locate` meets its contract. Assumes nothing.
use mathlib.Core.Path.{sym, ◌∙◌}
use Rattle.pair_judgement.proofs.JudgeLaws.{first_unmapped, second_unmapped, ids_differ, first_unplaced, second_unplaced, both_placed}
use Rattle.pair_judgement.proofs.locate.Goals.{then-unmapped-via-then-unmapped, then-unmapped-via-else-unmapped+then-unmapped-2}
use Rattle.pair_judgement.proofs.locate.Goals as goal

pub returns-then-unmapped : goal.returns-then-unmapped
returns-then-unmapped c =
    let first = c.args.first.now in
    let second = c.args.second.now in
    elim c.then-unmapped.branch [
      | then-unmapped-via-then-unmapped w ↦ first_unmapped first second (rw c.flags_of.ensures at (sym c.unmapped.ensures ∙ w.if-unmapped.true))
      | then-unmapped-via-else-unmapped+then-unmapped-2 w ↦
          second_unmapped first second (rw c.flags_of.ensures at (sym c.unmapped.ensures ∙ w.if-unmapped.false))
          (rw w.flags_of-else-unmapped.ensures at (sym w.unmapped-else-unmapped.ensures ∙ w.if-unmapped-2.true))
    ]

pub returns-then-not-same_reference : goal.returns-then-not-same_reference
returns-then-not-same_reference c =
    ids_differ c.args.first.now c.args.second.now (rw c.flags_of.ensures at (sym c.unmapped.ensures ∙ c.if-unmapped.false))
    (rw c.flags_of-else-unmapped.ensures at (sym c.unmapped-else-unmapped.ensures ∙ c.if-unmapped-2.false))
    (sym c.same_reference.ensures ∙ c.if-not-same_reference.true)

pub returns-in_default : goal.returns-in_default
returns-in_default c =
    second_unplaced c.args.first.now c.args.second.now (rw c.flags_of.ensures at (sym c.unmapped.ensures ∙ c.if-unmapped.false))
    (rw c.flags_of-else-unmapped.ensures at (sym c.unmapped-else-unmapped.ensures ∙ c.if-unmapped-2.false))
    (sym c.same_reference.ensures ∙ c.if-not-same_reference.false)
    c.in_default.field-0-0 (sym c.start_of.ensures ∙ c.in_default.is-0) (sym c.start_of-2.ensures ∙ c.in_default.is-1)

pub returns-in_default-2 : goal.returns-in_default-2
returns-in_default-2 c =
    first_unplaced c.args.first.now c.args.second.now (rw c.flags_of.ensures at (sym c.unmapped.ensures ∙ c.if-unmapped.false))
    (rw c.flags_of-else-unmapped.ensures at (sym c.unmapped-else-unmapped.ensures ∙ c.if-unmapped-2.false))
    (sym c.same_reference.ensures ∙ c.if-not-same_reference.false) (sym c.start_of.ensures ∙ c.in_default.is-0)

pub returns : goal.returns
returns c =
    both_placed c.args.first.now c.args.second.now (rw c.flags_of.ensures at (sym c.unmapped.ensures ∙ c.if-unmapped.false))
    (rw c.flags_of-else-unmapped.ensures at (sym c.unmapped-else-unmapped.ensures ∙ c.if-unmapped-2.false))
    (sym c.same_reference.ensures ∙ c.if-not-same_reference.false)
    c.in-Some-Some.pos1 (sym c.start_of.ensures ∙ c.in-Some-Some.is-0) c.in-Some-Some.pos2 (sym c.start_of-2.ensures ∙ c.in-Some-Some.is-1)
