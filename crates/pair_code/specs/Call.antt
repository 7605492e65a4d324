-- The pair call by numbers and bytes: its answer and every byte of the three slices.
use Rattle.strategy.specs.declared.Strategies.{Strategies}
use Rattle.refusal.specs.declared.Refusal.{Refusal}
use Rattle.std.specs.Prelude.{ℕ, List, cond, length, eqb, Result, Ok, Err}
use Rattle.refusal.specs.declared.Refusal.TheVariants.{CountsSlice}
use Rattle.refusal.specs.Table.{code_of}
use Rattle.stats.specs.declared.CorrectionStats.{CorrectionStats}
use Rattle.stats.specs.Tally.{counts_at, with_counts}
use Rattle.strategy.specs.Number.{numbered_of}
use Rattle.positions.specs.Step.{state}
use Rattle.pair.specs.declared.Answer.{Answer}
use Rattle.pair.specs.declared.Answer.TheVariants as Answers
use Rattle.pair.specs.Pair.{Outcome, pair_of, answer_code}

-- the answer and the three slices after the call
pub record Returned : Type 0 where
  pub answer : ℕ
  pub first : List ℕ
  pub second : List ℕ
  pub counts : List ℕ

abbrev pub returned : ℕ → List ℕ → List ℕ → List ℕ → Returned
returned r a b c = record { answer = r; first = a; second = b; counts = c }

-- counts are written for an overlap alone
abbrev pub counts_after : Answer → List ℕ → CorrectionStats → List ℕ
counts_after (Answers.NoOverlap r) c g = c
counts_after Answers.Overlap c g = with_counts c 0 g
counts_after (Answers.Refused r) c g = c

abbrev pub called : List ℕ → Outcome → Returned
called c o = returned (answer_code o.answer) o.after.first o.after.second (counts_after o.answer c o.after.stats)

abbrev pub with_numbers : List ℕ → List ℕ → List ℕ → Result Strategies Refusal → Returned
with_numbers a b c (Ok w) = called c (pair_of w (state a b (counts_at c 0)))
with_numbers a b c (Err r) = returned (code_of r) a b c

-- the counts slice, then the strategy numbers and the cap, then the pair call
unfoldable pub call_of : List ℕ → List ℕ → ℕ → ℕ → ℕ → List ℕ → Returned
call_of a b m k cap c = cond (eqb (length c) 32) (with_numbers a b c (numbered_of m k cap)) (returned (code_of CountsSlice) a b c)
