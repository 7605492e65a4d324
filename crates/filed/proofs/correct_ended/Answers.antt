-- `filed::correct_ended` meets its contract. Assumes nothing.
use mathlib.Core.Path.{sym, ◌∙◌, ap}
use Prim.Native.Nat.{ℕ}
use lib.ListN.{take}
use native.Mathlib.Omega.{arith}
use Rattle.filed.proofs.WriteLaws.{table_end}
use Rattle.filed.proofs.StageLaws.{not_fifty, wrong_field, known, raw}
use Rattle.filed.proofs.correct_ended.Goals as goal

pub overflow_sub-filed : goal.overflow_sub-filed
overflow_sub-filed c = omega (arith, table_end _ _ _ c.requires, c.requires.left)

pub returns-then-filed-p-ne-SIZE : goal.returns-then-filed-p-ne-SIZE
returns-then-filed-p-ne-SIZE c =
    ((λ g. not_fifty _ _ g _ _ (table_end _ _ _ c.requires) (λ z. c.if-filed-p-ne-SIZE.true (omega arith))), tt)

pub returns-then-wrong : goal.returns-then-wrong
returns-then-wrong c =
    let ends = table_end _ _ _ c.requires in
    ((λ g. wrong_field _ _ g _ _ ends (omega (arith, ends, c.requires.left)) _ c.read-t.ensures (sym c.wrong.ensures ∙ c.if-wrong.true)), tt)

pub returns-then-t-from : goal.returns-then-t-from
returns-then-t-from c =
    let ends = table_end _ _ _ c.requires in
    ((λ g. known _ _ g _ _ ends (omega (arith, ends, c.requires.left)) _ c.read-t.ensures (sym c.wrong.ensures ∙ c.if-wrong.false) (c.if-t-from.true ∙ c.from.ensures)), tt)

pub correct_raw-requires : goal.correct_raw-requires
correct_raw-requires c =
    let ends = table_end _ _ _ c.requires in
    record { ends = c.requires; bytes = ap (λ (k : ℕ). take k c.args.filed.now) ends; size = omega (arith, ends, c.requires.left) }

pub returns : goal.returns
returns c =
    let ends = table_end _ _ _ c.requires in (
      (λ g. raw _ _ g _ _ ends (omega (arith, ends, c.requires.left)) _ c.read-t.ensures (sym c.wrong.ensures ∙ c.if-wrong.false) (λ e. c.if-t-from.false (e ∙ sym c.from.ensures)) _ (rw (sym ends) at (c.correct_raw.ensures.0 g))),
      c.correct_raw.ensures.1,
    )
