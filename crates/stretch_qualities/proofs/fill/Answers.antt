use Prim.Native.Nat.{◌-◌}
use mathlib.Core.Path.{◌≡◌, ap, ◌∙◌}
use mathlib.Core.Bool.{not}
use native.Mathlib.Omega.{arith}
use borrow.Author.Rules.{rules}
use borrow.Author.Tests.{ne_eqb}
use Rattle.stretch_qualities.proofs.BlockLaws.{filling_start, filling_turn, lane_whole, lane_last}
use Rattle.stretch_qualities.proofs.fill.Goals as goal
use Rattle.stretch_qualities.proofs.fill.Goals.{then-this-ne0, else-this-ne0}
use Rattle.stretch_qualities.specs.Blocks.{lane_at}

pub loop-t-init : goal.loop-t-init
loop-t-init g c = (c.as_flattened-live.ensures.value, filling_start _ _ _ _ _ _ _ _ (search rules) (search rules))

pub loop-t-preserved : goal.loop-t-preserved
loop-t-preserved g c =
    let args = c.args in
    let loop = c.loop-t in
    let treated : c.if-this-ne0.r ≡ lane_at args.w args.first.now args.p args.second.now args.q (32 - args.n) loop.t
    = elim c.if-this-ne0.branch [
      | then-this-ne0 w ↦
          lane_whole args.w args.first.now args.p args.second.now args.q (32 - args.n) loop.t c.if-this-ne0.r (omega (arith, c.requires.3 (ap not (ne_eqb g.row.WHOLE 0 w.if-this-ne0.true)))) (w.r-is ∙ c.agreed-all.ensures)
      | else-this-ne0 w ↦ lane_last args.w args.first.now args.p args.second.now args.q args.n loop.t
          c.agreed-all.result c.if-this-ne0.r c.requires.2 c.loop-t-test.true c.agreed-all.ensures (w.r-is ∙ (rw loop.invariant.0 at w.chosen-r.ensures))
    ] in (
      loop.invariant.0,
      filling_turn args.w args.first.now args.p args.second.now args.q (32 - args.n) loop.t loop.qual1 loop.qual2 loop.corrected
          c.if-this-ne0.r c.changed-corrected.result c.loop-t-test.true treated c.changed-corrected.ensures loop.invariant.1,
    )
