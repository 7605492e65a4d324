-- `group_mates::Search::fits_at` meets its contract. Assumes nothing.
use Prim.Native.Nat.{ℕ, ◌+◌, ◌*◌, ◌/◌}
use mathlib.Core.Path.{sym, ap, ◌∙◌}
use lib.ListN.{get_or}
use Rattle.group_mates.proofs.KeyLaws.{not_fits, fits_name}
use native.Mathlib.Omega.{arith}
use Rattle.group_mates.specs.Role.{role_number}
use Rattle.group_mates.proofs.RoleLaws.{role_below}
use Rattle.group_mates.proofs.Search.fits_at.Goals as goal

pub returns-then-self-j : goal.returns-then-self-j
returns-then-self-j c =
    let args = c.args in
    let key = args.self.now.key.now in
    not_fits _ _ (get_or key args.j 0) (get_or key args.i 0) (role_number args.role)
    (c.args.self.now.keyed.keys args.j c.requires.1) (c.args.self.now.keyed.keys args.i c.requires.0) (omega (arith, role_below args.role)) (λ z. c.if-self-j.true (z ∙ ap (λ (y : ℕ). get_or key args.i 0 / 4 * 4 + y) (sym c.number.ensures)))

pub same_name-requires : goal.same_name-requires
same_name-requires c =
    let args = c.args in
    (rw c.record-other.ensures (c.args.self.now.tabled.sound args.j c.requires.1), rw c.record.ensures (c.args.self.now.tabled.sound args.i c.requires.0))

pub returns : goal.returns
returns c =
    let args = c.args in
    let key = args.self.now.key.now in
    fits_name _ _ (get_or key args.j 0) (get_or key args.i 0) (role_number args.role)
    (c.args.self.now.keyed.keys args.j c.requires.1) (c.args.self.now.keyed.keys args.i c.requires.0) (omega (arith, role_below args.role)) c.same_name.result (c.if-self-j.false ∙ ap (λ (y : ℕ). get_or key args.i 0 / 4 * 4 + y) c.number.ensures)
    (rw (c.record-other.ensures, c.record.ensures) at c.same_name.ensures)
