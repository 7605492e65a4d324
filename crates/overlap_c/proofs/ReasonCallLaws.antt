-- The call that gives the reason tells what the pair call answers of the same records.
use Rattle.std.specs.Prelude.{Result, Ok, Err}
use Prim.Native.Nat.{ℕ, ◌+◌, ◌*◌, ◌<◌, ◌≤◌}
use mathlib.Core.Path.{◌≡◌, refl, sym, ap, subst}
use mathlib.Core.List.{List}
use mathlib.Core.Bool.{Bool, true, false, cond}
use mathlib.Core.Logic.{⊎_elim}
use native.Mathlib.Omega.{arith}
use lib.Dec.{eqb}
use lib.ListN.{length}
use Rattle.refusal.specs.declared.Refusal.{Refusal}
use Rattle.refusal.specs.declared.Refusal.TheVariants.{Count, Strategy, CountsSlice, Cap}
use Rattle.refusal.specs.Table.{operation_of, code_of}
use Rattle.stats.specs.Counts.{full}
use Rattle.stats.specs.Tally.{counts_at}
use Rattle.strategy.specs.declared.Strategies.{Strategies}
use Rattle.strategy.specs.Cap.{cap_outside}
use Rattle.strategy.specs.Number.{numbered_of}
use Rattle.strategy.proofs.NumberLaws.{refused_is}
use Rattle.positions.specs.Step.{State, state}
use Rattle.pair_judgement.specs.declared.Reason.TheVariants.{Unmapped, ReferencesDiffer, NegativePosition, NoReferenceLength, NoSharedPosition}
use Rattle.pair.specs.declared.Answer.{Answer}
use Rattle.pair.specs.declared.Answer.TheVariants as Answers
use Rattle.pair.specs.Pair.{outcome, records_of, pair_of, answer_code}
use Rattle.pair_code.specs.Call.{Returned, returned, with_numbers, call_of}
use Rattle.pair_reason.specs.Reason.{answer_on, reason_code, reason_call_of}
use Rattle.pair_reason.proofs.AnswerLaws.{pair_answers}
use Rattle.pair_reason.proofs.PlaceLaws.{AtPlace, answer_place}
use Rattle.overlap_c.specs.ReasonCall.{OfRecords, Tells}

-- ---- the pair call's answer, where it is of the records
module _ (a b : List ℕ) (m k cap : ℕ) (c : List ℕ) where
  abbrev s : State
  s = state a b (counts_at c 0)

  -- by the cap, and by the counts
  Given : Strategies → Bool → Bool → Type 0
  Given w u t = OfRecords (answer_code (cond u (outcome (Answers.Refused Cap) s) (cond t (outcome (Answers.Refused Count) s) (records_of w s 1 2))).answer)

  of_checks : (w : Strategies) (u t : Bool) → cap_outside w.cap ≡ u → full (counts_at c 0) ≡ t → Given w u t → answer_code (pair_of w s).answer ≡ answer_code (answer_on a b)
  unfolding Given
  of_checks w true t d e o = absurd (o.cap refl)
  of_checks w false true d e o = absurd (o.counts refl)
  of_checks w false false d e o = ap answer_code (sym (pair_answers w s d e))

  of_numbers : (x : Result Strategies Refusal) → numbered_of m k cap ≡ x → OfRecords (with_numbers a b c x).answer → (with_numbers a b c x).answer ≡ answer_code (answer_on a b)
  unfolding pair_of Given
  of_numbers (Ok w) e o = of_checks w (cap_outside w.cap) (full (counts_at c 0)) refl refl o
  of_numbers (Err r) e o =
      ⊎_elim (λ (z : r ≡ Strategy). absurd (o.strategies (ap code_of z))) (λ (z : (r ≡ Cap) × (cap_outside cap ≡ true)). absurd (o.cap (ap code_of z.0))) (refused_is m k cap r e)

  pub of_records : OfRecords (call_of a b m k cap c).answer → (call_of a b m k cap c).answer ≡ answer_code (answer_on a b)
  unfolding call_of
  of_records o = go (eqb (length c) 32) o
    where
      by : Bool → Returned
      by t = cond t (with_numbers a b c (numbered_of m k cap)) (returned (code_of CountsSlice) a b c)

      go : (t : Bool) → OfRecords (by t).answer → (by t).answer ≡ answer_code (answer_on a b)
      go true p = of_numbers (numbered_of m k cap) refl p
      go false p = absurd (p.slice refl)

-- ---- both numbers of one answer
below : (r : Refusal) (p : ℕ) → p ≤ 2 → AtPlace p r → code_of r < 10000
below r p h e = omega (arith, e.0, e.1)

refused_tells : (r : Refusal) → code_of r < 10000 → Tells (code_of r + 10000 * operation_of r) (code_of r)
refused_tells r h =
    record {
      overlap = ((λ e. absurd (omega arith)), λ e. absurd (omega arith));
      apart = ((λ e. absurd (omega (arith, e.1))), λ e. absurd (omega arith));
      refused = λ e. omega (arith, h);
    }

apart_tells : (n : ℕ) → 0 < n → n ≤ 5 → Tells n 0
apart_tells n h k =
    record {
      overlap = ((λ e. absurd (omega arith)), λ e. absurd (omega arith));
      apart = ((λ e. refl), λ e. (h, k));
      refused = λ e. absurd (omega arith);
    }

both_tell : (x : Answer) → ((r : Refusal) → x ≡ Answers.Refused r → code_of r < 10000) → Tells (reason_code x) (answer_code x)
both_tell (Answers.NoOverlap Unmapped) h = apart_tells 1 (omega arith) (omega arith)
both_tell (Answers.NoOverlap ReferencesDiffer) h = apart_tells 2 (omega arith) (omega arith)
both_tell (Answers.NoOverlap NegativePosition) h = apart_tells 3 (omega arith) (omega arith)
both_tell (Answers.NoOverlap NoReferenceLength) h = apart_tells 4 (omega arith) (omega arith)
both_tell (Answers.NoOverlap NoSharedPosition) h = apart_tells 5 (omega arith) (omega arith)
both_tell Answers.Overlap h =
    record {
      overlap = ((λ e. refl), λ e. refl);
      apart = ((λ e. absurd (omega (arith, e.0))), λ e. absurd (omega arith));
      refused = λ e. absurd (omega arith);
    }
both_tell (Answers.Refused r) h = refused_tells r (h r refl)

-- the theorem, for every two records and whatever the pair call is given beside them
pub reason_tells : (a b : List ℕ) (m k cap : ℕ) (c : List ℕ) → OfRecords (call_of a b m k cap c).answer → Tells (reason_call_of a b) (call_of a b m k cap c).answer
reason_tells a b m k cap c o =
    subst (λ (n : ℕ). Tells (reason_call_of a b) n) (sym (of_records a b m k cap c o))
    (both_tell (answer_on a b) (λ r e. ⊎_elim (below r 1 (omega arith)) (below r 2 (omega arith)) (answer_place a b r e)))
