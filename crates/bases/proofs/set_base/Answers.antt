-- `bases::set_base` meets its contract, by the half that the base is in. Assumes nothing.
use Rattle.bases.proofs.BaseLaws.{put_even, put_odd}
use Rattle.bases.proofs.set_base.Goals as goal
use Rattle.bases.proofs.set_base.Goals.{then-i-eq0, else-i-eq0}

pub returns : goal.returns
returns c =
    let args = c.args in
    elim c.if-i-eq0.branch [
      | then-i-eq0 w ↦ rw w.s-is (put_even args.s.now args.y args.i.0 args.v w.if-i-eq0.true)
      | else-i-eq0 w ↦ rw w.s-is (put_odd args.s.now args.y args.i.0 args.v w.if-i-eq0.false)
    ]
