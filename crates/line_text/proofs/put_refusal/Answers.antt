-- `line_text::put_refusal` meets its contract. Assumes nothing.
use native.Mathlib.Omega.{arith}
use mathlib.Core.Path.{◌∙◌}
use Rattle.line_text.proofs.PutLaws.{refusal_line}
use Rattle.line_text.proofs.put_refusal.Goals as goal

pub returns : goal.returns
returns c =
    let args = c.args in (
      rw (refusal_line args.r _ _ (c.from.ensures ∙ c.number.ensures) (c.from-2.ensures ∙ c.place.ensures)) at c.put_line.ensures.0,
      omega (arith, c.put_line.ensures.1),
    )
