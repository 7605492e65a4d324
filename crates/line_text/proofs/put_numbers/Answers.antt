-- `line_text::put_numbers` meets its contract. Assumes nothing.
use native.Mathlib.Omega.{arith}
use Rattle.line_text.proofs.PutLaws.{put_none, put_then, spaced_step}
use Rattle.line_text.proofs.put_numbers.Goals as goal

pub loop-n-init : goal.loop-n-init
loop-n-init c =
    let args = c.args in
    record { put = put_none args.out.now args.at; short = omega arith }

pub loop-n-preserved : goal.loop-n-preserved
loop-n-preserved c =
    let loop = c.loop-n in
    let number = c.put_number-end.ensures in
    record {
      put = rw (spaced_step c.args.numbers.now loop.n-index (omega arith)) at (put_then loop.invariant.put number.0);
      short = omega (arith, loop.invariant.short, number.1);
    }
