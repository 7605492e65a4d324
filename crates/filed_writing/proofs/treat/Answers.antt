-- `filed_writing::treat` meets its contract. Assumes nothing.
use Rattle.filed_writing.proofs.TreatLaws.{zero_room, treats}
use Rattle.filed_writing.proofs.treat.Goals as goal

pub treat_judged-met-requires : goal.treat_judged-met-requires
treat_judged-met-requires c = (c.requires, zero_room c.new.result c.new.ensures)

pub returns : goal.returns
returns c =
    treats c.args.w c.args.first.now c.args.second.now c.requires c.new.result c.new.ensures c.treat_judged-met.result _ _ c.treat_judged-met.ensures c.of_pair.result c.of_pair.ensures
