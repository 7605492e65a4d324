use Prim.Native.Nat.{◌<◌}
use mathlib.Core.Path.{sym, ◌∙◌}
use native.Mathlib.Omega.{arith}
use Rattle.filed_writing.proofs.LeadLaws.{none_of, front_long, front_mate, empty_wide, empty_first, leading_start, leading_alone, mate_in, lead_in, leading_next, leading_end}
use Rattle.filed_writing.proofs.enter_leads.Goals as goal
use Rattle.filed_writing.proofs.enter_leads.Goals.{in-Some, in_default}

pub loop-i-init : goal.loop-i-init
loop-i-init c =
    let z = c.fill.ensures.after (λ y e. e) in
    let fits = c.requires.1 in
    leading_start _ _ _ (omega (arith, empty_wide c.args.lead.now _ c.args.n (omega (arith, fits, c.requires.0.few)) z, fits)) (empty_first c.args.lead.now _ c.args.n (omega (arith, fits, c.requires.0.few)) z)

pub overflow_add-lead : goal.overflow_add-lead
overflow_add-lead c = omega (arith, c.requires.0.few, c.loop-i-test.true, front_long c.args.mate.now c.args.n c.requires.0)

pub offset_bounds-lead-last : goal.offset_bounds-lead-last
offset_bounds-lead-last c =
    let args = c.args in
    let below : c.loop-i.i < args.n = omega (arith, c.loop-i-test.true, front_long args.mate.now args.n c.requires.0) in
    let is = front_mate args.mate.now args.n c.loop-i.i c.requires.0 c.loop-i-test.true in
    omega (arith, mate_in _ _ _ _ c.loop-i.invariant c.requires.0 below (λ z. omega (arith, is, z, c.in-Some.ensures.0)), is, c.in-Some.ensures.1, c.requires.0.few)

pub bounds-lead-last : goal.bounds-lead-last
bounds-lead-last c =
    let args = c.args in
    let below : c.loop-i.i < args.n = omega (arith, c.loop-i-test.true, front_long args.mate.now args.n c.requires.0) in
    let is = front_mate args.mate.now args.n c.loop-i.i c.requires.0 c.loop-i-test.true in
    omega (arith, lead_in _ _ _ _ c.loop-i.invariant c.requires.0 below (λ z. omega (arith, is, z, c.in-Some.ensures.0)), is, c.in-Some.ensures.1)

pub loop-i-preserved : goal.loop-i-preserved
loop-i-preserved c =
    let args = c.args in
    let below : c.loop-i.i < args.n = omega (arith, c.loop-i-test.true, front_long args.mate.now args.n c.requires.0) in
    let is = front_mate args.mate.now args.n c.loop-i.i c.requires.0 c.loop-i-test.true in
    elim c.match-checked_sub.branch [
      | in-Some w ↦ rw (w.lead-is, w.in-Some.ensures.1, is) (leading_next _ _ _ _ c.loop-i.invariant c.requires.0 below (λ z. omega (arith, is, z, w.in-Some.ensures.0)))
      | in_default w ↦ rw w.lead-is (leading_alone _ _ _ _ c.loop-i.invariant (sym is ∙ none_of _ w.in_default.ensures))
    ]

pub returns : goal.returns
returns c =
    let long = front_long c.args.mate.now c.args.n c.requires.0 in
    leading_end _ _ _ _ c.loop-i.invariant (omega (arith, long, c.loop-i-test.false)) (omega (arith, long))
