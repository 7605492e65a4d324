-- `fields::name_of` meets its contract: the part that its law names, empty for a length of 0. Assumes nothing.
use Rattle.fields.proofs.NameLaws.{name_part}
use Rattle.fields.proofs.name_of.Goals as goal

pub returns : goal.returns
returns c = rw (c.saturating_sub.ensures, c.from-n.ensures, c.l_read_name.ensures) (name_part c.args.s.now)
