-- The call, by its cases.
use Rattle.std.specs.Prelude.{Result, Ok, Err}
use Prim.Native.Nat.{ℕ}
use mathlib.Core.Path.{◌≡◌, refl, sym, ap, ap₂, ◌∙◌}
use mathlib.Core.List.{List}
use lib.ListN.{length}
use borrow.Author.Tests.{eq-eqb, ne_eqb}
use Rattle.refusal.specs.declared.Refusal.{Refusal}
use Rattle.refusal.specs.declared.Refusal.TheVariants.{CountsSlice}
use Rattle.refusal.specs.Table.{code_of}
use Rattle.stats.specs.declared.CorrectionStats.{CorrectionStats}
use Rattle.stats.specs.Tally.{counts_at, with_counts}
use Rattle.strategy.specs.declared.Strategies.{Strategies}
use Rattle.strategy.specs.Number.{numbered_of}
use Rattle.positions.specs.Step.{state}
use Rattle.pair.specs.declared.Answer.{Answer}
use Rattle.pair.specs.declared.Answer.TheVariants as Answers
use Rattle.pair.specs.Pair.{Outcome, pair_of, answer_code}
use Rattle.pair_code.specs.Call.{counts_after, returned, called, call_of}

module _ (a b : List ℕ) (m k cap : ℕ) (c : List ℕ) where
  pub slice_wrong : (n : ℕ) → n ≡ code_of CountsSlice → (length c ≡ 32 → ⊥) → returned n a b c ≡ call_of a b m k cap c
  unfolding call_of
  slice_wrong n e h = rw (ne_eqb (length c) 32 h) (ap (λ (x : ℕ). returned x a b c) e)

  module _ (size : length c ≡ 32) (numbered : Result Strategies Refusal) (is : numbered ≡ numbered_of m k cap) where
    pub numbers_wrong : (n : ℕ) (r : Refusal) → n ≡ code_of r → numbered ≡ Err r → returned n a b c ≡ call_of a b m k cap c
    unfolding call_of
    numbers_wrong n r e f = rw (eq-eqb (length c) 32 size, sym is ∙ f) (ap (λ (x : ℕ). returned x a b c) e)

    pub called_as : (w : Strategies) (g : CorrectionStats) (o : Outcome) → numbered ≡ Ok w → g ≡ counts_at c 0 → o ≡ pair_of w (state a b g) → called c o ≡ call_of a b m k cap c
    unfolding call_of
    called_as w g o f e h =
        rw (eq-eqb (length c) 32 size, sym is ∙ f) (ap (called c) (h ∙ ap (λ (x : CorrectionStats). pair_of w (state a b x)) e))

-- what is written, by the answer
pub counts_written : (x : Answer) (c : List ℕ) (g : CorrectionStats) → x ≡ Answers.Overlap → with_counts c 0 g ≡ counts_after x c g
counts_written x c g e = rw e

pub counts_left : (x : Answer) (c : List ℕ) (g : CorrectionStats) → (x ≡ Answers.Overlap → ⊥) → c ≡ counts_after x c g
counts_left (Answers.NoOverlap r) c g h = refl
counts_left Answers.Overlap c g h = absurd (h refl)
counts_left (Answers.Refused r) c g h = refl

pub called_is : (n : ℕ) (d c : List ℕ) (o : Outcome) → n ≡ answer_code o.answer → d ≡ counts_after o.answer c o.after.stats → returned n o.after.first o.after.second d ≡ called c o
called_is n d c o e f = ap₂ (λ (x : ℕ) (y : List ℕ). returned x o.after.first o.after.second y) e f
