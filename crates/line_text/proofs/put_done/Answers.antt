-- `line_text::put_done` meets its contract. Assumes nothing.
use native.Mathlib.Omega.{arith}
use Rattle.line_text.proofs.PutLaws.{done_line}
use Rattle.line_text.proofs.put_done.Goals as goal

pub returns : goal.returns
returns c =
    let args = c.args in (
      rw (done_line args.records args.pairs args.overlapping args.g) at c.put_line.ensures.0,
      omega (arith, c.put_line.ensures.1),
    )
