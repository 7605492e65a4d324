use Prim.Native.Nat.{ℕ, ◌+◌, ◌-◌, ◌/◌}
use mathlib.Core.Path.{◌≡◌, refl, sym, ap, ◌∙◌}
use native.Mathlib.Omega.{arith}
use lib.ListN.{length}
use Rattle.group_names.specs.Digest.{mixed, spread, digest_of}
use Rattle.group_names.proofs.DigestLaws.{mixed_next, mixed_end, mixed_short, mixed_long}
use Rattle.group_names.proofs.digest.Goals as goal
use Rattle.group_names.proofs.digest.Goals.{else-loop-i-test, then-loop-i-test+else-last-i-gt8}

pub returns-then-size-lt8 : goal.returns-then-size-lt8
unfolding digest_of
returns-then-size-lt8 c =
    let args = c.args in
    (c.spread_out.ensures.0 ∙ ap spread (c.mix_bytes.ensures ∙ mixed_short args.x.now c.if-size-lt8.true), c.spread_out.ensures.1)

pub loop-i-init : goal.loop-i-init
loop-i-init c = ap (mixed 8 0 c.args.x.now 0) (omega arith)

pub loop-i-preserved : goal.loop-i-preserved
loop-i-preserved c =
    let x = c.args.x.now in
    let loop = c.loop-i in
    ap (λ (z : ℕ). mixed 8 z x (loop.i + 8) ((length x - 8 - (loop.i + 8) + 7) / 8)) c.mix-h.ensures
    ∙ sym (mixed_next 8 loop.h c.u64_at.result loop.i _ _ x (omega arith) c.u64_at.ensures)
    ∙ loop.invariant

pub u64_at-requires-2 : goal.u64_at-requires-2
u64_at-requires-2 c = omega (arith, c.if-size-lt8.false)

pub returns : goal.returns
unfolding digest_of
returns c =
    let x = c.args.x.now in
    let loop = c.loop-i in
    let all : c.loop-i-test.h ≡ mixed 8 0 x 0 ((length x - 1) / 8) =
    elim c.loop-i-test.branch [
      | else-loop-i-test w ↦ w.h-is ∙ sym (mixed_end 8 loop.h loop.i _ x (omega arith)) ∙ loop.invariant
      | then-loop-i-test+else-last-i-gt8 w ↦ w.h-is ∙ w.mix-h.ensures
          ∙ sym (mixed_next 8 loop.h w.u64_at.result loop.i _ 0 x (omega arith) w.u64_at.ensures ∙ mixed_end 8 _ _ 0 x refl)
          ∙ loop.invariant
    ] in (
      c.spread_out-2.ensures.0 ∙ ap spread (c.mix.ensures ∙ mixed_long x _ c.u64_at-2.result c.if-size-lt8.false all c.u64_at-2.ensures),
      c.spread_out-2.ensures.1,
    )
