-- `group_mates::same_name` meets its contract. Assumes nothing.
use mathlib.Core.Path.{ap₂, ◌∙◌}
use Rattle.group_names.specs.Same.{same_bytes}
use Rattle.group_mates.proofs.same_name.Goals as goal

pub returns : goal.returns
returns c = c.same.ensures ∙ ap₂ same_bytes c.name_of.ensures c.name_of-2.ensures
