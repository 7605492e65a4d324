-- `filed_trailer::raw` meets its contract. Assumes nothing.
use mathlib.Core.Path.{sym, ◌∙◌}
use lib.Seq.{length-take-le}
use Rattle.filed_trailer.proofs.TrailerLaws.{raw_long, raw_made}
use Rattle.filed_trailer.proofs.raw.Goals as goal

pub copy_from_slice-requires : goal.copy_from_slice-requires
copy_from_slice-requires c =
    let args = c.args in
    length-take-le 50 args.t.now c.requires
    ∙ sym (raw_long args.strategies args.records args.distance _ _ c.put_u32.ensures c.put_u64.ensures)

pub returns : goal.returns
returns c =
    let args = c.args in
    raw_made args.strategies args.records args.distance args.t.now _ _ _ c.put_u32.ensures c.put_u64.ensures c.copy_from_slice.ensures.after
