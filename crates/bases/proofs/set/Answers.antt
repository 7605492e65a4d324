-- `bases::set` meets its contract. Assumes nothing.
use Rattle.bases.proofs.BaseLaws.{put_is}
use Rattle.bases.proofs.set.Goals as goal

pub returns : goal.returns
returns c =
    let args = c.args in
    put_is args.s.now _ args.y args.i.0 args.v args.q c.set_base.ensures
