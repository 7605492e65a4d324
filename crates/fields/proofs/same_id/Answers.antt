-- `fields::same_id` meets its contract: signed numbers are equal where their bits are. Assumes nothing.
use Rattle.fields.proofs.PositionLaws.{same_bits}
use Rattle.fields.proofs.same_id.Goals as goal

pub returns : goal.returns
returns c = same_bits c.args.a c.args.b c.ranges.a c.ranges.b
