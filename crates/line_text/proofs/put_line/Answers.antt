-- `line_text::put_line` meets its contract. Assumes nothing.
use native.Mathlib.Omega.{arith}
use Rattle.line_text.proofs.PutLaws.{put_then}
use Rattle.line_text.proofs.put_line.Goals as goal

pub returns : goal.returns
returns c = (
  put_then (put_then c.put_text-first.ensures c.put_numbers-last.ensures.0) c.put_text.ensures,
  omega (
    arith,
    c.put_text-first.ensures.end,
    c.put_numbers-last.ensures.1,
    c.put_text.ensures.end,
  ),
)
