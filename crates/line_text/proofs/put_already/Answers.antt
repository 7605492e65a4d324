-- `line_text::put_already` meets its contract. Assumes nothing.
use native.Mathlib.Omega.{arith}
use Rattle.line_text.proofs.PutLaws.{already_line}
use Rattle.line_text.proofs.put_already.Goals as goal

pub returns : goal.returns
returns c =
    let args = c.args in (
      rw (already_line args.records args.g) at c.put_line.ensures.0,
      omega (arith, c.put_line.ensures.1),
    )
