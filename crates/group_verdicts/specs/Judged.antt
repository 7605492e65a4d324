-- The pairs of a group, judged as the pair call judges them.
use Rattle.std.specs.Prelude.{ℕ, ◌≡◌, List, [], ◌∷◌, Result, Ok, Err}
use Rattle.refusal.specs.declared.Refusal.{Refusal}
use Rattle.refusal.specs.Table.{number_of, place_of, operation_of}
use Rattle.stats.specs.Counts.{zeroed}
use Rattle.strategy.specs.declared.Strategies.{Strategies}
use Rattle.positions.specs.Step.{State, state}
use Rattle.pair_judgement.specs.declared.Reason.{Reason}
use Rattle.pair.specs.declared.Answer.{Answer}
use Rattle.pair.specs.declared.Answer.TheVariants as Answers
use Rattle.pair.specs.Pair.{Outcome, records_of}
use Rattle.group_frames.specs.Frame.{record_of}

-- records i and j of the group s, with counts from 0
abbrev pub both_at : List ℕ → ℕ → ℕ → State
both_at s i j = state (record_of s i) (record_of s j) zeroed

-- what the pair call gives for them, from step 3 on: the group has judged the cap and the statistics
abbrev pub pair_at : Strategies → List ℕ → ℕ → ℕ → Outcome
pair_at w s i j = records_of w (both_at s i j) 1 2

-- how they are judged: as in the pair call from step 3 on, a refusal at the index of the record at fault
abbrev pub judged_at : Strategies → List ℕ → ℕ → ℕ → Answer
judged_at w s i j = (records_of w (both_at s i j) i j).answer

-- an answer of the pair call, and how the group has it: the same; or a refusal of that number and operation, at i for record 1 and at j for record 2
pub data Named (i j : ℕ) : Answer → Answer → Type 0 where
  apart : (r : Reason) → Named i j (Answers.NoOverlap r) (Answers.NoOverlap r)
  overlap : Named i j Answers.Overlap Answers.Overlap
  at_first : (r q : Refusal) → number_of q ≡ number_of r → operation_of q ≡ operation_of r → place_of r ≡ 1 → place_of q ≡ i → Named i j (Answers.Refused r) (Answers.Refused q)
  at_second : (r q : Refusal) → number_of q ≡ number_of r → operation_of q ≡ operation_of r → place_of r ≡ 2 → place_of q ≡ j → Named i j (Answers.Refused r) (Answers.Refused q)

abbrev pub answered : Answer → Result (Unit {0}) Refusal
answered (Answers.NoOverlap r) = Ok tt
answered Answers.Overlap = Ok tt
answered (Answers.Refused r) = Err r

abbrev pub verdict_at : Strategies → List ℕ → ℕ → ℕ → Result (Unit {0}) Refusal
verdict_at w s i j = answered (judged_at w s i j)

-- one refusal refuses all
abbrev pub on_verdict : Result (Unit {0}) Refusal → Result (Unit {0}) Refusal → Result (Unit {0}) Refusal
on_verdict (Ok done) rest = rest
on_verdict (Err r) rest = Err r

-- the pairs of a list in its order, each with its verdict
unfoldable pub judge_by : (ℕ → ℕ → Result (Unit {0}) Refusal) → List (ℕ × ℕ) → Result (Unit {0}) Refusal
judge_by v [] = Ok tt
judge_by v (e ∷ l) = on_verdict (v e.0 e.1) (judge_by v l)
