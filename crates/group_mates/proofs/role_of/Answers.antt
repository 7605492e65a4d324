-- `group_mates::role_of` meets its contract. Assumes nothing.
use mathlib.Core.Path.{ap, ◌∙◌}
use native.Mathlib.Omega.{arith}
use Rattle.group_mates.specs.Register.{role_by, role_in}
use Rattle.group_mates.proofs.RoleLaws.{role_below}
use Rattle.group_mates.proofs.role_of.Goals as goal

pub returns-in-Some : goal.returns-in-Some
unfolding role_in
returns-in-Some c = (c.number.ensures ∙ c.in-Some.ensures ∙ ap role_by c.flags_of.ensures, omega (arith, c.number.ensures, role_below c.in-Some.role))

pub returns-in-None : goal.returns-in-None
unfolding role_in
returns-in-None c = (c.in-None.ensures ∙ ap role_by c.flags_of.ensures, omega arith)
