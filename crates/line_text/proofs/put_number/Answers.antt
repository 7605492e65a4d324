-- `line_text::put_number` meets its contract. Assumes nothing.
use Rattle.line_text.proofs.PutLaws.{put_number}
use Rattle.line_text.proofs.DigitLaws.{few_digits}
use native.Mathlib.Omega.{arith}
use Rattle.line_text.proofs.put_number.Goals as goal

pub put_text-requires : goal.put_text-requires
put_text-requires c =
    omega (
      arith,
      c.put_text-start.ensures.end,
      c.decimal-k.ensures.in_bounds.1,
      few_digits c.args.n c.decimal-k.result (omega arith) c.decimal-k.ensures.len,
      c.put_text-start.auto.out,
    )

pub returns : goal.returns
returns c =
    let args = c.args in
    let few = few_digits args.n c.decimal-k.result (omega arith) c.decimal-k.ensures.len in (
      put_number args.out.now _ _ args.at _ _ c.decimal-k.result args.n _ c.put_text-start.ensures
          c.put_text.ensures few
          c.decimal-k.ensures.len c.decimal-k.ensures.digits,
      omega (
        arith,
        c.put_text-start.ensures.end,
        c.decimal-k.ensures.in_bounds.1,
        c.put_text.ensures.end,
        few,
      ),
    )
