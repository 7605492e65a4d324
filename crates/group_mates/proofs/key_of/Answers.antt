-- `group_mates::key_of` meets its contract. Assumes nothing.
use mathlib.Core.Path.{ap, ap₂, ◌∙◌}
use Prim.Native.Nat.{ℕ, ◌+◌, ◌*◌}
use Rattle.group_mates.specs.Table.{key_in}
use Rattle.group_names.specs.Digest.{digest_of}
use Rattle.group_mates.proofs.key_of.Goals as goal

pub returns : goal.returns
unfolding key_in
returns c = ap₂ (λ (x y : ℕ). x * 4 + y) (c.digest-d.ensures.0 ∙ ap digest_of c.name_of.ensures) c.role_of.ensures.0
