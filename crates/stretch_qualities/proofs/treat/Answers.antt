use Prim.Native.Nat.{◌-◌}
use mathlib.Core.Path.{refl}
use native.Mathlib.Omega.{arith}
use Rattle.stretch_qualities.specs.Stretched.{stretched}
use Rattle.stretch_qualities.proofs.RowLaws.{going_start, going_more, going_end}
use Rattle.stretch_qualities.proofs.treat.Goals as goal

pub loop-t-init : goal.loop-t-init
loop-t-init c = going_start _ _ _ _ _

pub overflow_sub-n : goal.overflow_sub-n
overflow_sub-n c =
    omega (arith, c.loop-t.invariant.low)

pub treat_block-corrected-requires : goal.treat_block-corrected-requires
treat_block-corrected-requires c =
    let loop = c.loop-t in
    (omega (arith, loop.invariant.first), omega (arith, loop.invariant.second), omega arith, λ e. refl)

pub overflow_add-corrected : goal.overflow_add-corrected
overflow_add-corrected c =
    let args = c.args in
    let loop = c.loop-t in
    omega (
      arith,
      (going_more args.w args.p args.q args.n (stretched args.first.now args.second.now 0)
          loop.t 32 _ _ loop.first loop.second loop.corrected _ _ c.treat_block-corrected.result
          (omega (arith, c.loop-t-test.true)) (omega arith) (omega arith) loop.invariant c.treat_block-corrected.ensures).few,
    )

pub loop-t-preserved : goal.loop-t-preserved
loop-t-preserved c =
    let args = c.args in
    let loop = c.loop-t in
    going_more args.w args.p args.q args.n (stretched args.first.now args.second.now 0)
    loop.t 32 _ _ loop.first loop.second loop.corrected _ _ c.treat_block-corrected.result
    (omega (arith, c.loop-t-test.true)) (omega arith) (omega arith) loop.invariant c.treat_block-corrected.ensures

pub overflow_sub-n-then-t-n : goal.overflow_sub-n-then-t-n
overflow_sub-n-then-t-n c =
    let loop = c.loop-t in
    omega (arith, loop.invariant.low)

pub treat_block-corrected-requires-then-t-n : goal.treat_block-corrected-requires-then-t-n
treat_block-corrected-requires-then-t-n c =
    let loop = c.loop-t in
    (omega (arith, loop.invariant.first, c.requires.1), omega (arith, loop.invariant.second, c.requires.3), omega (arith, c.loop-t-test.false), λ e. cc)

pub overflow_add-corrected-then-t-n : goal.overflow_add-corrected-then-t-n
overflow_add-corrected-then-t-n c =
    let args = c.args in
    let loop = c.loop-t in
    omega (
      arith,
      (going_more args.w args.p args.q args.n (stretched args.first.now args.second.now 0)
          loop.t (args.n - loop.t) _ _ loop.first loop.second loop.corrected _ _ c.treat_block-corrected-then-t-n.result
          (omega (arith, loop.invariant.low)) (omega (arith, loop.invariant.low, c.requires.0, c.loop-t-test.false)) (omega (arith, loop.invariant.low, c.requires.2, c.loop-t-test.false)) loop.invariant c.treat_block-corrected-then-t-n.ensures).few,
    )

pub shape_of-first-then-t-n : goal.shape_of-first-then-t-n
shape_of-first-then-t-n c =
    let args = c.args in
    let loop = c.loop-t in
    (going_more args.w args.p args.q args.n (stretched args.first.now args.second.now 0)
    loop.t (args.n - loop.t) _ _ loop.first loop.second loop.corrected _ _ c.treat_block-corrected-then-t-n.result
    (omega (arith, loop.invariant.low)) (omega (arith, loop.invariant.low, c.requires.0, c.loop-t-test.false)) (omega (arith, loop.invariant.low, c.requires.2, c.loop-t-test.false)) loop.invariant c.treat_block-corrected-then-t-n.ensures).first

pub shape_of-second-then-t-n : goal.shape_of-second-then-t-n
shape_of-second-then-t-n c =
    let args = c.args in
    let loop = c.loop-t in
    (going_more args.w args.p args.q args.n (stretched args.first.now args.second.now 0)
    loop.t (args.n - loop.t) _ _ loop.first loop.second loop.corrected _ _ c.treat_block-corrected-then-t-n.result
    (omega (arith, loop.invariant.low)) (omega (arith, loop.invariant.low, c.requires.0, c.loop-t-test.false)) (omega (arith, loop.invariant.low, c.requires.2, c.loop-t-test.false)) loop.invariant c.treat_block-corrected-then-t-n.ensures).second

pub returns-then-t-n : goal.returns-then-t-n
returns-then-t-n c =
    let args = c.args in
    let loop = c.loop-t in
    going_end args.w args.p args.q args.n (stretched args.first.now args.second.now 0) _ _ _ _ (omega (arith, loop.invariant.low)) refl (going_more args.w args.p args.q args.n (stretched args.first.now args.second.now 0)
    loop.t (args.n - loop.t) _ _ loop.first loop.second loop.corrected _ _ c.treat_block-corrected-then-t-n.result
    (omega (arith, loop.invariant.low)) (omega (arith, loop.invariant.low, c.requires.0, c.loop-t-test.false)) (omega (arith, loop.invariant.low, c.requires.2, c.loop-t-test.false)) loop.invariant c.treat_block-corrected-then-t-n.ensures)

pub shape_of-first-else-t-n : goal.shape_of-first-else-t-n
shape_of-first-else-t-n c =
    let loop = c.loop-t in
    loop.invariant.first

pub shape_of-second-else-t-n : goal.shape_of-second-else-t-n
shape_of-second-else-t-n c =
    let loop = c.loop-t in
    loop.invariant.second

pub returns-else-t-n : goal.returns-else-t-n
returns-else-t-n c =
    let args = c.args in
    let loop = c.loop-t in
    going_end args.w args.p args.q args.n (stretched args.first.now args.second.now 0) loop.t _ _ _ c.if-t-n.false refl loop.invariant
