-- `group_mates::role_by` meets its contract. Assumes nothing.
use mathlib.Core.Path.{sym, ◌∙◌}
use Rattle.group_mates.specs.Register.{role_by}
use Rattle.group_mates.proofs.role_by.Goals as goal
use Rattle.group_mates.proofs.role_by.Goals.{then-secondary-via-then-secondary, then-secondary-via-else-secondary+then-supplementary}

pub returns-then-secondary : goal.returns-then-secondary
unfolding role_by
returns-then-secondary c =
    elim c.then-secondary.branch [
      | then-secondary-via-then-secondary w ↦ simp (sym c.secondary.ensures ∙ w.if-secondary.true)
      | then-secondary-via-else-secondary+then-supplementary w ↦ simp (sym c.secondary.ensures ∙ w.if-secondary.false, sym w.supplementary.ensures ∙ w.if-supplementary.true)
    ]

pub returns-then-first_segment : goal.returns-then-first_segment
unfolding role_by
returns-then-first_segment c = simp (
  sym c.secondary.ensures ∙ c.if-secondary.false,
  sym c.supplementary.ensures ∙ c.if-supplementary.false,
  sym c.first_segment.ensures ∙ c.if-first_segment.true,
)

pub returns-then-last_segment : goal.returns-then-last_segment
unfolding role_by
returns-then-last_segment c = simp (
  sym c.secondary.ensures ∙ c.if-secondary.false,
  sym c.supplementary.ensures ∙ c.if-supplementary.false,
  sym c.first_segment.ensures ∙ c.if-first_segment.false,
  sym c.last_segment.ensures ∙ c.if-last_segment.true,
)

pub returns : goal.returns
unfolding role_by
returns c = simp (
  sym c.secondary.ensures ∙ c.if-secondary.false,
  sym c.supplementary.ensures ∙ c.if-supplementary.false,
  sym c.first_segment.ensures ∙ c.if-first_segment.false,
  sym c.last_segment.ensures ∙ c.if-last_segment.false,
)
