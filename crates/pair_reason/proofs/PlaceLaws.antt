-- A refusal of two records names one of them, and is one of 1 to 8.
use Rattle.std.specs.Prelude.{Result, Option, Ok, Err, Some, None}
use Rattle.cigar.specs.declared.Totals.{Totals}
use Rattle.pair_judgement.specs.declared.Untreated.TheVariants as Untreateds
use Prim.Native.Nat.{ℕ, ◌+◌, ◌≤◌}
use mathlib.Core.Path.{◌≡◌, refl, ap, ◌∙◌}
use mathlib.Core.List.{List, [], ◌∷◌}
use mathlib.Core.Bool.{Bool, true, false, cond, ◌&&◌, ◌||◌, not}
use mathlib.Core.Logic.{◌⊎◌, inl, inr}
use native.Mathlib.Omega.{arith}
use lib.Dec.{eqb, ltb}
use lib.ListN.{length}
use Rattle.refusal.specs.declared.Refusal.{Refusal}
use Rattle.refusal.specs.declared.Refusal.TheVariants.{RecordShort, RecordLong, NameAndOperations, BasesAndQualities, OperationCode, ReadTotal, ReferenceEnd}
use Rattle.refusal.specs.Table.{number_of, place_of}
use Rattle.fields.specs.declared.Layout.{Layout}
use Rattle.fields.specs.Flag.{has_bit, unmapped}
use Rattle.fields.specs.Layout.{header, bases_at, tags_at}
use Rattle.fields.specs.Position.{position_of, same_id}
use Rattle.fields.specs.Check.{check_of}
use Rattle.cigar.specs.declared.Extent.{Extent}
use Rattle.cigar.specs.Operation.{ops_in}
use Rattle.cigar.specs.Judge.{walk_of, judged, operations_of, extent, span_of}
use Rattle.pair_merge.specs.Shared.{shared}
use Rattle.pair_judgement.specs.declared.Reason.TheVariants.{Unmapped, ReferencesDiffer, NoReferenceLength}
use Rattle.pair_judgement.specs.Judgement.{on_uses, on_span, on_position, span_in, mapped_of, judged_of, Judged}
use Rattle.pair_judgement.specs.Reason.{lengthless}
use Rattle.pair.specs.declared.Answer.TheVariants as Answers
use Rattle.pair.specs.Pair.{answer_of}
use Rattle.pair_reason.specs.Reason.{on_both, on_sound, answer_on}

abbrev pub AtPlace : ℕ → Refusal → Type 0
AtPlace p r = (place_of r ≡ p) × (number_of r ≤ 8)

-- a step's refusal, if it has one, names the record p
abbrev Names : {A : Type 0} → (Refusal → A) → ℕ → A → Type 0
Names bad p x = (r : Refusal) → x ≡ bad r → AtPlace p r

module _ (p : ℕ) where
  -- one refusal of the table, where t says so; else the rest
  check_or : (t : Bool) (q : Refusal) (x : Result Layout Refusal) → AtPlace p q → Names Err p x → Names Err p (cond t (Err q) x)
  check_or true q x h k r e = let f : q ≡ r = cc in rw (← f) h
  check_or false q x h k r e = k r e

  check_names : (s : List ℕ) → Names Err p (check_of s p)
  unfolding check_of
  check_names s =
      check_or (ltb (length s) 32) (RecordShort p) _ (refl, omega arith)
      (check_or (ltb 65536 (length s)) (RecordLong p) _ (refl, omega arith)
      (check_or (ltb (length s) (bases_at s)) (NameAndOperations p) _ (refl, omega arith)
      (check_or (ltb (length s) (tags_at s)) (BasesAndQualities p) _ (refl, omega arith)
      (λ r e. let z : ◌≡◌ {A = ℕ} 0 1 = cc in absurd (omega arith)))))

  judged_names : (count n : ℕ) (k : Result Totals ℕ) → Names Err p (judged count n p k)
  judged_names count n (Ok w) r e = go (ltb 0 count && ltb 0 n && not (eqb w.read count)) e
    where
      go : (t : Bool) → cond t (Err (ReadTotal p)) (Ok w.reference) ≡ Err r → AtPlace p r
      go true f = let g : ReadTotal p ≡ r = cc in rw (← g) (refl, omega arith)
      go false f = let z : ◌≡◌ {A = ℕ} 0 1 = cc in absurd (omega arith)
  judged_names count n (Err i) r e = let f : OperationCode p i ≡ r = cc in rw (← f) (refl, omega arith)

  end_names : (pos n : ℕ) → Names Err p (span_of pos n p)
  unfolding span_of
  end_names pos n r e = go (ltb 2147483646 (pos + n)) e
    where
      go : (t : Bool) → cond t (Err (ReferenceEnd p)) (Ok (extent pos n)) ≡ Err r → AtPlace p r
      go true f = let g : ReferenceEnd p ≡ r = cc in rw (← g) (refl, omega arith)
      go false f = let z : ◌≡◌ {A = ℕ} 0 1 = cc in absurd (omega arith)

  span_names : (y : Layout) (s : List ℕ) (pos : ℕ) → Names Err p (span_in y s pos p)
  unfolding span_in operations_of
  span_names y s pos r e = go (judged y.count (length (ops_in y s)) p (walk_of (ops_in y s))) refl e
    where
      go : (o : Result ℕ Refusal) → judged y.count (length (ops_in y s)) p (walk_of (ops_in y s)) ≡ o → on_uses o (λ n. span_of pos n p) ≡ Err r → AtPlace p r
      go (Ok n) f g = end_names pos n r g
      go (Err q) f g = let h : q ≡ r = cc in judged_names y.count (length (ops_in y s)) (walk_of (ops_in y s)) r (f ∙ ap Err h)

-- ---- both records
abbrev Either : Refusal → Type 0
Either r = AtPlace 1 r ⊎ AtPlace 2 r

module _ (y z : Layout) (a b : List ℕ) (r : Refusal) where
  spans_place : (p q : ℕ) → on_span (span_in y a p 1) (λ s. on_span (span_in z b q 2) (λ t. Ok (s, t))) ≡ Err (Untreateds.Refused r) → Either r
  spans_place p q e = one (span_in y a p 1) refl e
    where
      two : (s : Extent) (v : Result Extent Refusal) → span_in z b q 2 ≡ v → on_span v (λ t. Ok (s, t)) ≡ Err (Untreateds.Refused r) → Either r
      two s (Ok t) f g = let n : ◌≡◌ {A = ℕ} 0 1 = cc in absurd (omega arith)
      two s (Err x) f g = let h : x ≡ r = cc in inr (span_names 2 z b q r (f ∙ ap Err h))

      one : (u : Result Extent Refusal) → span_in y a p 1 ≡ u → on_span u (λ s. on_span (span_in z b q 2) (λ t. Ok (s, t))) ≡ Err (Untreateds.Refused r) → Either r
      one (Ok s) f g = two s (span_in z b q 2) refl g
      one (Err x) f g = let h : x ≡ r = cc in inl (span_names 1 y a p r (f ∙ ap Err h))

  judged_place : judged_of y z a b 1 2 ≡ Err (Untreateds.Refused r) → Either r
  unfolding judged_of mapped_of
  judged_place e = go (has_bit (header a).flags unmapped || has_bit (header b).flags unmapped) (same_id (header a).ref_id (header b).ref_id) (position_of (header a).pos) (position_of (header b).pos) e
    where
      go : (t u : Bool) (k l : Option ℕ) → cond t (Err (Untreateds.Apart Unmapped)) (cond u
          (on_position k (λ p. on_position l (λ q. on_span (span_in y a p 1) (λ s. on_span (span_in z b q 2) (λ t. Ok (s, t))))))
          (Err (Untreateds.Apart ReferencesDiffer))) ≡ Err (Untreateds.Refused r) → Either r
      go true u k l f = let n : ◌≡◌ {A = ℕ} 0 1 = cc in absurd (omega arith)
      go false false k l f = let n : ◌≡◌ {A = ℕ} 0 1 = cc in absurd (omega arith)
      go false true None l f = let n : ◌≡◌ {A = ℕ} 0 1 = cc in absurd (omega arith)
      go false true (Some p) None f = let n : ◌≡◌ {A = ℕ} 0 1 = cc in absurd (omega arith)
      go false true (Some p) (Some q) f = spans_place p q f

  both_place : (j : Judged) → judged_of y z a b 1 2 ≡ j → on_both y z a b j ≡ Answers.Refused r → Either r
  both_place (Err (Untreateds.Refused q)) e f = let h : q ≡ r = cc in judged_place (e ∙ ap (λ (x : Refusal). Err (Untreateds.Refused x)) h)
  both_place (Err (Untreateds.Apart x)) e f = let n : ◌≡◌ {A = ℕ} 0 1 = cc in absurd (omega arith)
  both_place (Ok (p, q)) e f = go (lengthless p q) (shared y z p.start q.start a b) f
    where
      go : (c : Bool) (l : List (ℕ × ℕ)) → cond c (Answers.NoOverlap NoReferenceLength) (answer_of l) ≡ Answers.Refused r → Either r
      go true l g = let n : ◌≡◌ {A = ℕ} 0 1 = cc in absurd (omega arith)
      go false [] g = let n : ◌≡◌ {A = ℕ} 0 1 = cc in absurd (omega arith)
      go false (x ∷ l) g = let n : ◌≡◌ {A = ℕ} 0 1 = cc in absurd (omega arith)

pub answer_place : (a b : List ℕ) (r : Refusal) → answer_on a b ≡ Answers.Refused r → AtPlace 1 r ⊎ AtPlace 2 r
unfolding answer_on
answer_place a b r e = one (check_of a 1) refl e
  where
    two : (y : Layout) (k : Result Layout Refusal) → check_of b 2 ≡ k → on_sound k (λ z. on_both y z a b (judged_of y z a b 1 2)) ≡ Answers.Refused r → Either r
    two y (Ok z) f g = both_place y z a b r (judged_of y z a b 1 2) refl g
    two y (Err x) f g = let h : x ≡ r = cc in inr (check_names 2 b r (f ∙ ap Err h))

    one : (k : Result Layout Refusal) → check_of a 1 ≡ k → on_sound k (λ y. on_sound (check_of b 2) (λ z. on_both y z a b (judged_of y z a b 1 2))) ≡ Answers.Refused r → Either r
    one (Ok y) f g = two y (check_of b 2) refl g
    one (Err x) f g = let h : x ≡ r = cc in inl (check_names 1 a r (f ∙ ap Err h))
