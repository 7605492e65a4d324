-- `pair::call` meets its contract. Assumes nothing.
use mathlib.Core.Path.{sym, ◌∙◌}
use Rattle.positions.specs.Step.{state}
use Rattle.pair.proofs.CallLaws.{call_cap, call_capped}
use Rattle.pair.proofs.call.Goals as goal

pub returns-then-cap_outside : goal.returns-then-cap_outside
returns-then-cap_outside c =
    let args = c.args in
    call_cap args.w (state args.first.now args.second.now args.stats) (sym c.cap_outside.ensures ∙ c.if-cap_outside.true)

pub returns : goal.returns
returns c =
    let args = c.args in
    c.call_capped.ensures
    ∙ call_capped args.w (state args.first.now args.second.now args.stats) (sym c.cap_outside.ensures ∙ c.if-cap_outside.false)
