-- `group_applying::apply_parts` meets its contract. Assumes nothing.
use Rattle.group_applying.proofs.PutLaws.{lent_asks, put_as}
use Rattle.group_applying.proofs.apply_parts.Goals as goal

pub treat_judged-met-requires : goal.treat_judged-met-requires
treat_judged-met-requires c =
    let args = c.args in
    lent_asks args.w args.buf.now args.room.now args.a.start args.a.end args.b.start args.b.end c.requires.0 c.copy_from_slice.new.self
    c.copy_from_slice.ensures.after c.requires.1 c.new.result c.new.ensures

pub returns : goal.returns
returns c =
    let args = c.args in
    put_as args.w args.buf.now args.room.now args.a.start args.a.end args.b.start args.b.end c.requires.0 c.copy_from_slice.new.self
    c.copy_from_slice.ensures.after c.requires.1 c.treat_judged-met.result c.new.result c.treat_judged-met.new.first
    c.treat_judged-met.new.second c.copy_from_slice-2.new.self c.new.ensures c.treat_judged-met.ensures
    c.treat_judged-met.auto.second c.copy_from_slice-2.ensures.after
