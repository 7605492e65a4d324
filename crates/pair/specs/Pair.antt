-- The pair call, in the document's order of judgement.
use Rattle.refusal.specs.declared.Refusal.{Refusal}
use Rattle.pair_judgement.specs.declared.Untreated.{Untreated}
use Rattle.pair_judgement.specs.declared.Untreated.TheVariants as Untreateds
use Rattle.pair_judgement.specs.declared.Placed.{Placed}
use Rattle.std.specs.Prelude.{ℕ, List, [], ◌∷◌, Bool, cond, Result, Ok, Err}
use Rattle.refusal.specs.declared.Refusal.TheVariants.{Count, Cap}
use Rattle.refusal.specs.Table.{code_of}
use Rattle.fields.specs.declared.Layout.{Layout}
use Rattle.fields.specs.declared.RefPos.{RefPos}
use Rattle.fields.specs.Check.{check_of}
use Rattle.stats.specs.Counts.{full}
use Rattle.strategy.specs.declared.Strategies.{Strategies}
use Rattle.strategy.specs.Cap.{cap_outside}
use Rattle.positions.specs.Step.{State, job}
use Rattle.pair_merge.specs.Shared.{shared, merged}
use Rattle.pair_judgement.specs.declared.Reason.TheVariants.{NoReferenceLength, NoSharedPosition}
use Rattle.pair_judgement.specs.Judgement.{judged_of, Judged}
use Rattle.pair_judgement.specs.Reason.{lengthless}
use Rattle.pair.specs.declared.Answer.{Answer}
use Rattle.pair.specs.declared.Answer.TheVariants as Answers

-- the answer, and both records and the counts after the call
pub record Outcome : Type 0 where
  pub answer : Answer
  pub after : State

abbrev pub outcome : Answer → State → Outcome
outcome r s = record { answer = r; after = s }

-- steps 8 and 9: overlap where some position is shared
abbrev pub answer_of : List (ℕ × ℕ) → Answer
answer_of [] = Answers.NoOverlap NoSharedPosition
answer_of (e ∷ l) = Answers.Overlap

-- two records on one reference that start at p and q: no overlap where one has no length there (`none`); then steps 8 and 9
abbrev pub on_reference : Strategies → Layout → Layout → State → RefPos → RefPos → Bool → Outcome
on_reference w y z s p q none =
    cond none (outcome (Answers.NoOverlap NoReferenceLength) s) (outcome (answer_of (shared y z p q s.first s.second)) (merged (job w y z) p q s))

abbrev pub on_judged : Strategies → Layout → Layout → State → Judged → Outcome
on_judged w y z s (Err (Untreateds.Refused r)) = outcome (Answers.Refused r) s
on_judged w y z s (Err (Untreateds.Apart r)) = outcome (Answers.NoOverlap r) s
on_judged w y z s (Ok (p, q)) = on_reference w y z s p.start q.start (lengthless p q)

-- why two records are not treated, as the answer
abbrev pub untreated_answer : Untreated → Answer
untreated_answer (Untreateds.Refused r) = Answers.Refused r
untreated_answer (Untreateds.Apart r) = Answers.NoOverlap r

-- two records judged by steps 3 to 7: each with its layout and what it covers
abbrev pub Both : Type 0
Both = Result (Placed × Placed) Untreated

abbrev pub placed : Layout → Layout → Judged → Both
placed y z (Err u) = Err u
placed y z (Ok (p, q)) = Ok (record { layout = y; extent = p }, record { layout = z; extent = q })

abbrev pub on_checked : Result Layout Refusal → (Layout → Both) → Both
on_checked (Ok y) rest = rest y
on_checked (Err r) rest = Err (Untreateds.Refused r)

unfoldable pub placed_of : List ℕ → List ℕ → Both
placed_of a b = on_checked (check_of a 1) (λ y. on_checked (check_of b 2) (λ z. placed y z (judged_of y z a b 1 2)))

abbrev pub on_good : Result Layout Refusal → State → (Layout → Outcome) → Outcome
on_good (Ok y) s rest = rest y
on_good (Err r) s rest = outcome (Answers.Refused r) s

-- step 3, first record before second; then the rest. A refusal names the first record by i, the second by j
unfoldable pub records_of : Strategies → State → ℕ → ℕ → Outcome
records_of w s i j = on_good (check_of s.first i) s (λ y. on_good (check_of s.second j) s (λ z. on_judged w y z s (judged_of y z s.first s.second i j)))

-- step 2, the statistics; then the records
abbrev pub capped_of : Strategies → State → Outcome
capped_of w s = cond (full s.stats) (outcome (Answers.Refused Count) s) (records_of w s 1 2)

-- the whole call: before them the cap
unfoldable pub pair_of : Strategies → State → Outcome
pair_of w s = cond (cap_outside w.cap) (outcome (Answers.Refused Cap) s) (capped_of w s)

-- what the exported call answers: 0 whatever the reason
abbrev pub answer_code : Answer → ℕ
answer_code (Answers.NoOverlap r) = 0
answer_code Answers.Overlap = 1
answer_code (Answers.Refused r) = code_of r
