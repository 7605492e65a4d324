-- Refusals 5 and 7 are given exactly when the document says.
use Rattle.std.specs.Prelude.{Result, Ok, Err}
use Rattle.refusal.specs.declared.Refusal.{Refusal}
use Rattle.cigar.specs.declared.Totals.{Totals}
use Prim.Native.Nat.{ℕ, suc, ◌+◌, ◌%◌, ◌≤◌, ◌<◌}
use mathlib.Core.Path.{◌≡◌, refl, sym, ap, ◌∙◌}
use mathlib.Core.List.{List, [], ◌∷◌, ◌++◌, append-nil}
use mathlib.Core.Bool.{Bool, true, false, ◌&&◌, not}
use mathlib.Core.Logic.{◌↔◌, ◌⊎◌, inl, inr, ⊎_elim}
use native.Mathlib.Omega.{arith}
use lib.ListN.{length}
use lib.Dec.{eqb, ltb}
use borrow.Author.Tests.{ltb-true, ltb-false, eqb-true, eqb-false}
use Rattle.refusal.specs.declared.Refusal.TheVariants.{OperationCode, ReadTotal}
use Rattle.fields.specs.declared.Layout.{Layout}
use Rattle.fields.proofs.Arith.{lt_or_le}
use Rattle.cigar.specs.Operation.{Unknown, kind, read_sum, ref_sum, ops_in}
use Rattle.cigar.specs.Judge.{on_kind, fault_or, walk_of, judged, operations_of, totals}
use Rattle.cigar.specs.Exact.{BadCode, BadTotal, Faultless, FirstFault, GivenExactly}
use Rattle.cigar.proofs.PlaceLaws.{kind_bad}
use Rattle.cigar.proofs.JudgeLaws.{known_kind}

-- a code above 8 is one that no kind of operation has
pub bad_unknown : (op : ℕ) → BadCode op ↔ (kind op ≡ Unknown)
bad_unknown op = (λ h. kind_bad (op % 16) h, λ e. ⊎_elim (λ h. h) (λ h. absurd (known h e)) (lt_or_le 8 (op % 16)))
  where
    known : op % 16 ≤ 8 → kind op ≡ Unknown → ⊥
    known h e =
        let k : on_kind (kind op) 0 (Ok (totals 0 0)) ≡ Ok (totals 0 0) = known_kind (op % 16) 0 (Ok (totals 0 0)) h in
        let u : Err 0 ≡ Ok (totals 0 0) = rw e at k in
        let z : ◌≡◌ {A = ℕ} 0 1 = cc in omega arith

-- ---- every operation, from the first on
-- of no operations none is faulty
none_faulty : Faultless []
none_faulty [] op after e = let z : ◌≡◌ {A = ℕ} 0 1 = cc in absurd (omega arith)
none_faulty (b ∷ before) op after e = let z : ◌≡◌ {A = ℕ} 0 1 = cc in absurd (omega arith)

-- one more in front, itself without fault
one_more : {w : ℕ} {ws : List ℕ} → w % 16 ≤ 8 → Faultless ws → Faultless (w ∷ ws)
one_more {w} {ws} c h [] op after e = let same : w ≡ op = cc in rw (← same) c
one_more {w} {ws} c h (b ∷ before) op after e = h before op after (cc)

-- one less in front
one_less : {w : ℕ} {ws : List ℕ} → Faultless (w ∷ ws) → Faultless ws
one_less {w} h before op after e = h (w ∷ before) op after (ap (λ (l : List ℕ). w ∷ l) e)

-- the walk passes operations without fault,
pass_front : (before rest : List ℕ) (i : ℕ) (good : Result Totals ℕ) → Faultless before → fault_or (before ++ rest) i good ≡ fault_or rest (i + length before) good
unfolding fault_or
pass_front [] rest i good h = ap (λ (k : ℕ). fault_or rest k good) (omega arith)
pass_front (w ∷ ws) rest i good h =
    known_kind (w % 16) i _ (h [] w ws refl)
    ∙ (pass_front ws rest (suc i) good (one_less h) ∙ ap (λ (k : ℕ). fault_or rest k good) (omega arith))

-- all of them where there is no other,
pass_all : (ops : List ℕ) (good : Result Totals ℕ) → Faultless ops → fault_or ops 0 good ≡ good
unfolding fault_or
pass_all ops good h = rw append-nil at (pass_front ops [] 0 good h)

-- and stops at the first that is faulty
stop_code : (ops : List ℕ) (i : ℕ) (good : Result Totals ℕ) → FirstFault ops i → fault_or ops 0 good ≡ Err i
unfolding fault_or
stop_code ops i good f =
    let here : 0 + length f.before ≡ i = omega (arith, f.index) in
    ap (λ (l : List ℕ). fault_or l 0 good) f.split
    ∙ (pass_front f.before (f.op ∷ f.after) 0 good f.passed ∙ (rw (kind_bad (f.op % 16) f.faulty) (ap Err here)))

-- there is a first faulty operation, or none is
first_fault : (ops : List ℕ) → ((i : ℕ) × FirstFault ops i) ⊎ Faultless ops
first_fault [] = inr none_faulty
first_fault (w ∷ ws) = go (first_fault ws) (lt_or_le 8 (w % 16))
  where
    here : BadCode w → FirstFault (w ∷ ws) 0
    here h = record { before = []; op = w; after = ws; split = refl; index = refl; passed = none_faulty; faulty = h }

    later : (i : ℕ) → w % 16 ≤ 8 → FirstFault ws i → FirstFault (w ∷ ws) (suc i)
    later i c f =
        record {
          before = w ∷ f.before;
          op = f.op;
          after = f.after;
          split = ap (λ (l : List ℕ). w ∷ l) f.split;
          index = ap suc f.index;
          passed = one_more c f.passed;
          faulty = f.faulty;
        }

    go : ((i : ℕ) × FirstFault ws i) ⊎ Faultless ws → (8 < w % 16) ⊎ (w % 16 ≤ 8) → ((i : ℕ) × FirstFault (w ∷ ws) i) ⊎ Faultless (w ∷ ws)
    go r (inl c) = inl (0, here c)
    go (inl f) (inr c) = inl (suc f.0, later f.0 c f.1)
    go (inr h) (inr c) = inr (one_more c h)

-- ---- the answers
-- each answer, with what it is given for
data Given (count : ℕ) (ops : List ℕ) (place : ℕ) : Result ℕ Refusal → Type 0 where
  by_code : (i : ℕ) → FirstFault ops i → Given count ops place (Err (OperationCode place i))
  by_total : Faultless ops → BadTotal count ops → Given count ops place (Err (ReadTotal place))
  passes : Faultless ops → (BadTotal count ops → ⊥) → Given count ops place (Ok (ref_sum ops))

-- the reason of an answer
code_of : {count : ℕ} {ops : List ℕ} {place at i : ℕ} → Given count ops place (Err (OperationCode at i)) → FirstFault ops i
code_of (by_code i f) = f

total_of : {count : ℕ} {ops : List ℕ} {place at : ℕ} → Given count ops place (Err (ReadTotal at)) → Faultless ops × BadTotal count ops
total_of (by_total h t) = (h, t)

uses_of_lem : {count : ℕ} {ops : List ℕ} {place n : ℕ} → Given count ops place (Ok n) → Faultless ops × (BadTotal count ops → ⊥) × (n ≡ ref_sum ops)
uses_of_lem (passes h t) = (h, t, refl)

-- whether the read total is wrong, and what the test says of it
abbrev Tested : ℕ → List ℕ → Bool → Type 0
Tested count ops t = (BadTotal count ops × (t ≡ true)) ⊎ ((BadTotal count ops → ⊥) × (t ≡ false))

total_tested : (count : ℕ) (ops : List ℕ) → Tested count ops (ltb 0 count && ltb 0 (length ops) && not (eqb (read_sum ops) count))
total_tested count ops = go (ltb 0 count) (ltb 0 (length ops)) (eqb (read_sum ops) count) refl refl refl
  where
    go : (a b c : Bool) → ltb 0 count ≡ a → ltb 0 (length ops) ≡ b → eqb (read_sum ops) count ≡ c → Tested count ops (a && b && not c)
    go true true true d e f = inr (λ t. t.2 (eqb-true (read_sum ops) count f), refl)
    go true true false d e f = inl ((ltb-true 0 count d, ltb-true 0 (length ops) e, eqb-false (read_sum ops) count f), refl)
    go true false c d e f = inr (λ t. omega (arith, t.1, ltb-false 0 (length ops) e), refl)
    go false b c d e f = inr (λ t. omega (arith, t.0, ltb-false 0 count d), refl)

module _ (y : Layout) (s : List ℕ) (place : ℕ) where
  -- the walk's answer judged
  answer_of_lem : (w : Result Totals ℕ) → walk_of (ops_in y s) ≡ w → operations_of y s place ≡ judged y.count (length (ops_in y s)) place w
  unfolding operations_of
  answer_of_lem w e = ap (judged y.count (length (ops_in y s)) place) e

  -- where a condition holds, its answer is given
  code_given : (i : ℕ) → FirstFault (ops_in y s) i → operations_of y s place ≡ Err (OperationCode place i)
  code_given i f = answer_of_lem (Err i) (stop_code (ops_in y s) i _ f)

  -- without a faulty operation the read total decides
  totals_of : Faultless (ops_in y s)
      → operations_of y s place ≡ judged y.count (length (ops_in y s)) place (Ok (totals (read_sum (ops_in y s)) (ref_sum (ops_in y s))))
  totals_of h = answer_of_lem (Ok (totals (read_sum (ops_in y s)) (ref_sum (ops_in y s)))) (pass_all (ops_in y s) _ h)

  total_given : Faultless (ops_in y s) → BadTotal y.count (ops_in y s) → operations_of y s place ≡ Err (ReadTotal place)
  total_given h t = totals_of h ∙ ⊎_elim (λ w. rw w.1) (λ w. absurd (w.0 t)) (total_tested y.count (ops_in y s))

  uses_given : Faultless (ops_in y s) → (BadTotal y.count (ops_in y s) → ⊥) → operations_of y s place ≡ Ok (ref_sum (ops_in y s))
  uses_given h t = totals_of h ∙ ⊎_elim (λ w. absurd (t w.0)) (λ w. rw w.1) (total_tested y.count (ops_in y s))

  -- one of the answers is given, for its reason
  given : Given y.count (ops_in y s) place (operations_of y s place)
  given = go (first_fault (ops_in y s)) (total_tested y.count (ops_in y s))
    where
      go : ((i : ℕ) × FirstFault (ops_in y s) i) ⊎ Faultless (ops_in y s)
          → Tested y.count (ops_in y s) (ltb 0 y.count && ltb 0 (length (ops_in y s)) && not (eqb (read_sum (ops_in y s)) y.count))
          → Given y.count (ops_in y s) place (operations_of y s place)
      go (inl f) t = rw (code_given f.0 f.1) (by_code f.0 f.1)
      go (inr h) (inl t) = rw (total_given h t.0) (by_total h t.0)
      go (inr h) (inr t) = rw (uses_given h t.0) (passes h t.0)

  -- whatever the answer is, it is given for its reason
  given_as : {r : Result ℕ Refusal} → operations_of y s place ≡ r → Given y.count (ops_in y s) place r
  given_as e = rw e at given

  -- refusals 5 and 7 are given exactly when the document says, and there is no other answer
  pub operations_exact : GivenExactly y.count (ops_in y s) place (operations_of y s place)
  operations_exact =
      record {
        code = λ i. (λ e. code_of (given_as e), code_given i);
        total = (λ e. total_of (given_as e), λ h. total_given h.0 h.1);
        uses = λ n. (λ e. uses_of_lem (given_as e), λ h. uses_given h.0 h.1 ∙ ap Ok (sym h.2));
        decided = one_of given;
      }
    where
      one_of : {r : Result ℕ Refusal} → Given y.count (ops_in y s) place r
          → ((i : ℕ) × (r ≡ Err (OperationCode place i))) ⊎ ((r ≡ Err (ReadTotal place)) ⊎ (r ≡ Ok (ref_sum (ops_in y s))))
      one_of (by_code i f) = inl (i, refl)
      one_of (by_total h t) = inr (inl refl)
      one_of (passes h t) = inr (inr refl)
