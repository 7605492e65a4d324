-- `filed_raw::file` meets its contract. Assumes nothing.
use native.Mathlib.Omega.{arith}
use Rattle.std.proofs.lemmas.Result.{err_from_is_err_and}
use Rattle.filed_raw.proofs.FiledLaws.{are_small, filled_few, numbers_wrong, frames_wrong, room_short, trailer_made}
use Rattle.filed_raw.proofs.file.Goals as goal

pub returns-in_err-by_number : goal.returns-in_err-by_number
returns-in_err-by_number c =
    let p = err_from_is_err_and c.from_residual.result c.from_residual.ensures.1 in
    rw (p.1, p.2) (numbers_wrong _ _ _ _ _ (rw c.from.ensures at c.by_number.ensures) _ c.in_err-by_number.was)

pub returns-in_err-n : goal.returns-in_err-n
returns-in_err-n c =
    let p = err_from_is_err_and c.from_residual-in_err-n.result c.from_residual-in_err-n.ensures.1 in
    rw (p.1, p.2) (frames_wrong _ _ _ _ _ (rw c.from.ensures at c.by_number.ensures) _ c.in_ok-by_number.was _ c.cut.ensures.0 _ c.in_err-n.was)

pub returns-then-out-lt-SIZE : goal.returns-then-out-lt-SIZE
returns-then-out-lt-SIZE c =
    room_short _ _ _ _ _ (rw c.from.ensures at c.by_number.ensures) _ c.in_ok-by_number.was _ c.cut.ensures.0 _ c.in_ok-n.was c.if-out-lt-SIZE.true

pub joined-strategies-requires : goal.joined-strategies-requires
joined-strategies-requires c = are_small _ _ _ (rw c.from.ensures at c.by_number.ensures) _ c.in_ok-by_number.was

pub overflow_cast-n : goal.overflow_cast-n
overflow_cast-n c = omega (arith, filled_few _ _ _ _ c.cut.ensures.1 c.in_ok-n.was)

pub returns : goal.returns
returns c =
    trailer_made _ _ _ _ _ (rw c.from.ensures at c.by_number.ensures) _ c.in_ok-by_number.was _ c.cut.ensures.0 _ c.in_ok-n.was c.if-out-lt-SIZE.false _
    (rw c.joined-strategies.ensures at c.raw.ensures)
