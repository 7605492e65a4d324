use mathlib.Core.Path.{◌≡◌, sym, ap, ◌∙◌}
use Prim.Native.Nat.{ℕ, suc, ◌-◌}
use lib.ListN.{get_or}
use Rattle.group_mates.specs.Register.{role_at, name_at}
use Rattle.group_mates.specs.Role.{role_number}
use Rattle.group_mates.specs.Table.{chain_of, last_in}
use Rattle.group_mates.proofs.RoleLaws.{less_one}
use Rattle.group_mates.proofs.KeyLaws.{holder_yes}
use Rattle.group_mates.proofs.ChainLaws.{Ending, last_le, walking_start, walking_next, walking_end, ending_none, ending_own}
use native.Mathlib.Omega.{arith}
use Rattle.group_mates.proofs.Search.holder_of.Goals as goal
use Rattle.group_mates.proofs.Search.holder_of.Goals.{in-First, in-Last}

pub loop-c-init : goal.loop-c-init
loop-c-init c =
    let args = c.args in
    let s = args.self.now.frames.bytes.now in
    let key = args.self.now.key.now in
    let e : get_or args.self.now.head.now c.chain_of.result 0 ≡ last_in key (chain_of (get_or key args.i 0)) args.self.now.frames.count =
    ap (λ (z : ℕ). get_or args.self.now.head.now z 0) c.chain_of.ensures.0 ∙ c.args.self.now.chained.heads args.i c.requires.0 in
    let ends : Ending s key (role_number args.role) args.i c.match-role.end =
    elim c.match-role.branch [
      | in-First w ↦ rw w.end-is (ending_own s key (role_number args.role) args.i (c.requires.1 ∙ ap role_number (sym w.in-First.is)))
      | in-Last w ↦ rw w.end-is (ending_none s key (role_number args.role) args.i)
    ] in (
      ends,
      walking_start s key args.self.now.frames.count c.args.self.now.keyed (role_number args.role) args.i c.requires.0 c.match-role.end ends _
          (elim c.match-role.branch [ in-First w ↦ omega (arith, w.end-is, c.requires.0) | in-Last w ↦ omega (arith, w.end-is) ]) e,
    )

pub fits_at-requires : goal.fits_at-requires
fits_at-requires c =
    (c.requires.0, omega (arith, c.loop-c.invariant.1.low))

pub returns-then-fits_at : goal.returns-then-fits_at
returns-then-fits_at c =
    let args = c.args in
    let loop = c.loop-c in
    let s = args.self.now.frames.bytes.now in
    let up : suc (loop.c - 1) ≡ loop.c = omega (arith, c.loop-c-test.true, loop.invariant.1.over) in (
      up ∙ holder_yes (role_at s) (name_at s) (role_number args.role) (name_at s args.i) loop.c (omega arith) c.fits_at.result
          c.fits_at.ensures c.if-fits_at.true ∙ loop.invariant.1.left,
      omega (arith, up, loop.invariant.1.low),
    )

pub loop-c-smaller : goal.loop-c-smaller
loop-c-smaller c =
    let loop = c.loop-c in
    let key = c.args.self.now.key.now in
    omega (
      arith,
      c.args.self.now.chained.links (loop.c - 1) (omega (arith, loop.invariant.1.low, loop.invariant.1.over, c.loop-c-test.true)),
      last_le key (chain_of (get_or key (loop.c - 1) 0)) (loop.c - 1),
    )

pub loop-c-preserved : goal.loop-c-preserved
loop-c-preserved c =
    let args = c.args in
    let loop = c.loop-c in (
      loop.invariant.0,
      walking_next args.self.now.frames.bytes.now args.self.now.key.now args.self.now.frames.count c.args.self.now.keyed (role_number args.role) args.i c.requires.0 _ loop.invariant.0 loop.c loop.invariant.1
          c.loop-c-test.true c.fits_at.result _ c.fits_at.ensures c.if-fits_at.false
          (c.args.self.now.chained.links (loop.c - 1) (omega (arith, loop.invariant.1.low, loop.invariant.1.over, c.loop-c-test.true))),
    )

pub returns : goal.returns
returns c =
    let loop = c.loop-c in
    let args = c.args in
    let search = args.self.now in
    let e = less_one loop.c c.checked_sub.result c.checked_sub.ensures in (
      e ∙ walking_end search.frames.bytes.now search.key.now search.frames.count search.keyed (role_number args.role) args.i c.requires.0 _ loop.invariant.0 loop.c loop.invariant.1
          c.loop-c-test.false,
      omega (arith, e, loop.invariant.1.low),
    )
