use mathlib.Core.Path.{refl, ◌∙◌}
use Rattle.group_frames.proofs.PlaceLaws.{end_in_lem}
use Rattle.filed_writing.specs.Written.{applied}
use Rattle.filed_writing.proofs.LeadLaws.{mated_pairing}
use Rattle.filed_writing.proofs.TurnLaws.{counting_start, filling_start, turn_fits, turn_counted, turn_filled, written_all}
use native.Mathlib.Omega.{arith}
use Rattle.filed_writing.proofs.write_all.Goals as goal

pub enter_leads-requires : goal.enter_leads-requires
enter_leads-requires c = (mated_pairing _ _ _ c.requires.0.few c.requires.1, c.requires.2)

pub loop-k-init : goal.loop-k-init
loop-k-init c = record {
  filling = filling_start _ _ _ _;
  counting = counting_start _ _ _ _ c.requires.0.few c.no_pair-sum.ensures;
  size = (refl, refl);
  holds = tt;
}

pub write-added-requires : goal.write-added-requires
write-added-requires c =
    let turned = c.pair_of-pair.ensures _ _ c.loop-k-test.true c.requires.1 c.enter_leads.ensures c.requires.6 in
    let inv = c.loop-k.invariant in (
      c.requires.0,
      turned,
      (λ j h. omega (arith, inv.size.0, c.requires.3 j h), λ j h. omega (arith, inv.size.1, c.requires.4 j h)),
      inv.holds,
      (inv.filling.front, omega (arith, end_in_lem c.args.frames.bytes.now _ _ turned.below, inv.filling.size, c.requires.5)),
    )

pub plus-sum-requires : goal.plus-sum-requires
plus-sum-requires c =
    let fit = turn_fits _ _ _ _ c.loop-k-test.true _ _ _ c.write-added.ensures.0 _ c.loop-k.invariant.counting in
    (fit.pairs, fit.overlapping, fit.stats)

pub loop-k-preserved : goal.loop-k-preserved
loop-k-preserved c =
    let wrote = c.write-added.ensures in
    let inv = c.loop-k.invariant in
    let sum = c.plus-sum.ensures in
    record {
      filling = turn_filled _ _ _ _ c.loop-k-test.true _ _ _ wrote.0 _ inv.filling c.write-added.auto.out;
      counting = turn_counted _ _ _ _ c.loop-k-test.true _ _ _ wrote.0 _ inv.counting _ (λ i. applied (sum.0 i) (sum.1 i) (sum.2 i));
      size = (wrote.2.0 ∙ inv.size.0, wrote.2.1 ∙ inv.size.1);
      holds = wrote.1;
    }

pub returns : goal.returns
returns c = written_all _ _ _ _ _ _ _ c.loop-k.invariant.filling c.loop-k.invariant.counting (omega arith) (omega arith)
