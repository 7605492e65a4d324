-- The pair call's answer by the records alone, and its number in the call that gives the reason. (Laws: whatever strategies and counts it is
-- given, the pair call answers so unless it is refused for its counts.)
use Rattle.refusal.specs.declared.Refusal.{Refusal}
use Rattle.pair_judgement.specs.declared.Untreated.TheVariants as Untreateds
use Rattle.std.specs.Prelude.{ℕ, List, cond, Result, Ok, Err}
use Rattle.refusal.specs.Table.{operation_code_of}
use Rattle.fields.specs.declared.Layout.{Layout}
use Rattle.fields.specs.Check.{check_of}
use Rattle.pair_merge.specs.Shared.{shared}
use Rattle.pair_judgement.specs.declared.Reason.TheVariants.{NoReferenceLength}
use Rattle.pair_judgement.specs.Reason.{reason_number, lengthless}
use Rattle.pair_judgement.specs.Judgement.{judged_of, Judged}
use Rattle.pair.specs.declared.Answer.{Answer}
use Rattle.pair.specs.declared.Answer.TheVariants as Answers
use Rattle.pair.specs.Pair.{answer_of}

-- what was judged by steps 4 to 7; then whether each record has a length on the reference; then steps 8 and 9
abbrev pub on_both : Layout → Layout → List ℕ → List ℕ → Judged → Answer
on_both y z a b (Err (Untreateds.Refused r)) = Answers.Refused r
on_both y z a b (Err (Untreateds.Apart r)) = Answers.NoOverlap r
on_both y z a b (Ok (p, q)) = cond (lengthless p q) (Answers.NoOverlap NoReferenceLength) (answer_of (shared y z p.start q.start a b))

abbrev pub on_sound : Result Layout Refusal → (Layout → Answer) → Answer
on_sound (Ok y) rest = rest y
on_sound (Err r) rest = Answers.Refused r

-- step 3, first record before second; then steps 4 to 9
unfoldable pub answer_on : List ℕ → List ℕ → Answer
answer_on a b = on_sound (check_of a 1) (λ y. on_sound (check_of b 2) (λ z. on_both y z a b (judged_of y z a b 1 2)))

-- 0 for overlap, else the reason's number, or the refusal's with 10,000 for each operation before the one at fault
abbrev pub reason_code : Answer → ℕ
reason_code (Answers.NoOverlap r) = reason_number r
reason_code Answers.Overlap = 0
reason_code (Answers.Refused r) = operation_code_of r

abbrev pub reason_call_of : List ℕ → List ℕ → ℕ
reason_call_of a b = reason_code (answer_on a b)
