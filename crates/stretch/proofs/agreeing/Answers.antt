use Prim.Native.Nat.{◌+◌, ◌*◌}
use mathlib.Core.Path.{◌≡◌, refl}
use native.Mathlib.Omega.{arith}
use Rattle.stretch.proofs.WordLaws.{scan_start, scan_turn, scan_found, scan_end}
use Rattle.stretch.proofs.agreeing.Goals as goal

pub loop-k-init : goal.loop-k-init
loop-k-init c = scan_start _ _ _ _

pub returns-then-same-lt16 : goal.returns-then-same-lt16
returns-then-same-lt16 c =
    let args = c.args in
    scan_found args.first.now args.second.now args.y args.z args.i.0 args.j.0 _ _ _ _ refl refl refl refl
    (16 * c.loop-k.k) _ _ _ c.loop-k.invariant c.word-a.ensures c.word-b.ensures c.first_unwell-same.ensures
    args.n c.min.result c.if-same-lt16.true c.min.ensures

pub loop-k-preserved : goal.loop-k-preserved
loop-k-preserved c =
    let args = c.args in
    let next : 16 * c.loop-k.k + 16 ≡ 16 * (c.loop-k.k + 1) = omega arith in
    let turn = scan_turn args.first.now args.second.now args.y args.z args.i.0 args.j.0 _ _ _ _ refl refl refl refl
    (16 * c.loop-k.k) _ _ _ c.loop-k.invariant c.word-a.ensures c.word-b.ensures c.first_unwell-same.ensures
    c.if-same-lt16.false in
    rw next at turn

pub returns : goal.returns
returns c =
    let args = c.args in
    scan_end args.first.now args.second.now args.y args.z args.i.0 args.j.0 _ _ _ _ refl refl refl refl
    (16 * c.loop-k.k) args.n (omega (arith, c.div_ceil-k-end.ensures)) c.loop-k.invariant
