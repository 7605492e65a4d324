-- `pair::call_capped` meets its contract. Assumes nothing.
use mathlib.Core.Path.{sym, ap, ◌∙◌}
use native.Mathlib.Omega.{arith}
use Rattle.stats.proofs.CountLaws.{room_less, full_room}
use Rattle.positions.specs.Step.{State, state}
use Rattle.pair.specs.declared.Answer.{Answer}
use Rattle.pair.specs.Pair.{outcome}
use Rattle.pair.proofs.CallLaws.{placed_ready, call_untreated, call_none, call_some}
use Rattle.pair.proofs.call_capped.Goals.{then-met-eq0, else-met-eq0}
use Rattle.pair.proofs.call_capped.Goals as goal

pub returns-in-Err : goal.returns-in-Err
returns-in-Err c =
    let args = c.args in
    let s : State = state args.first.now args.second.now args.stats in
    ap (λ (x : Answer). outcome x s) c.from.ensures
    ∙ call_untreated args.w s (sym c.full.ensures ∙ c.if-full.false) _ (sym c.judged.ensures ∙ c.in-Err.is)

pub treat-met-requires : goal.treat-met-requires
treat-met-requires c = (
  placed_ready c.args.first.now c.args.second.now c.in-Ok.placed (sym c.judged.ensures ∙ c.in-Ok.is),
  room_less c.args.stats 131072 _ (omega arith) (full_room c.args.stats (sym c.full.ensures ∙ c.if-full.false)),
)

pub returns : goal.returns
returns c =
    let args = c.args in
    let s : State = state args.first.now args.second.now args.stats in
    let v = c.in-Ok.placed in
    let n = c.treat-met.result.shared in
    let u : State = state c.treat-met.new.first c.treat-met.new.second c.treat-met.result.stats in
    let full = sym c.full.ensures ∙ c.if-full.false in
    let is = sym c.judged.ensures ∙ c.in-Ok.is in
    elim c.if-met-eq0.branch [
      | then-met-eq0 w ↦ ap (λ (x : Answer). outcome x u) w.answer-is ∙ call_none args.w s full v is u n c.treat-met.ensures _ w.unshared.ensures w.if-met-eq0.true
      | else-met-eq0 w ↦ ap (λ (x : Answer). outcome x u) w.answer-is ∙ call_some args.w s full v is u n c.treat-met.ensures w.if-met-eq0.false
    ]
