use Prim.Native.Nat.{◌+◌}
use mathlib.Core.Path.{refl, sym, ◌∙◌}
use native.Mathlib.Omega.{arith}
use lib.ListN.{length-set}
use borrow.Author.Rules.{rules}
use Rattle.stretch_qualities.proofs.BlockLaws.{store_start, store_turn, store_end}
use Rattle.stretch_qualities.proofs.store.Goals as goal

pub loop-t-init : goal.loop-t-init
loop-t-init c = (refl, omega arith, store_start c.args.s.now c.args.v c.args.at)

pub loop-t-preserved : goal.loop-t-preserved
loop-t-preserved c =
    let args = c.args in
    let loop = c.loop-t in
    (simp length-set loop.invariant.0, omega arith, store_turn loop.s args.v args.at loop.t (search rules) ∙ loop.invariant.2)

pub shape_of-s : goal.shape_of-s
shape_of-s c = c.loop-t.invariant.0

pub returns : goal.returns
returns c =
    let args = c.args in
    let loop = c.loop-t in
    sym (store_end loop.s args.v (args.at + loop.t) loop.t (search rules)) ∙ loop.invariant.2
