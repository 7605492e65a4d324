-- The cases in which a pair is judged, as the code meets them.
use Rattle.std.specs.Prelude.{Result, Option, Ok, Err, Some, None, IsErrAnd}
use Rattle.pair_judgement.specs.declared.Untreated.TheVariants as Untreateds
use Prim.Native.Nat.{ℕ}
use mathlib.Core.Path.{◌≡◌, refl, sym, ap, ◌∙◌}
use mathlib.Core.List.{List}
use mathlib.Core.Bool.{Bool, true, false, cond, ◌||◌}
use Rattle.fields.specs.declared.Layout.{Layout}
use Rattle.cigar.specs.declared.Extent.{Extent}
use Rattle.fields.specs.Flag.{has_bit, unmapped}
use Rattle.fields.specs.Layout.{header}
use Rattle.fields.specs.Position.{position_of, same_id}
use Rattle.refusal.specs.declared.Refusal.{Refusal}
use Rattle.pair_judgement.specs.declared.Reason.{Reason}
use Rattle.pair_judgement.specs.declared.Reason.TheVariants.{Unmapped, ReferencesDiffer, NegativePosition}
use Rattle.pair_judgement.specs.Judgement.{on_span, on_position, span_in, mapped_of, judged_of}
use Rattle.pair_judgement.specs.Where.{both_at, where_of, on_where}

-- what the exit of a `?` answers, where its error is made to be u
pub is_err : {T E : Type 0} (x : Result T E) (u : E) → IsErrAnd x (λ v. v ≡ u) → x ≡ Err u
is_err (Ok t) u h = absurd h
is_err (Err v) u h = ap Err h

-- where two records lie, by the headers
module _ (a b : List ℕ) where
  pub first_unmapped : has_bit (header a).flags unmapped ≡ true → Err Unmapped ≡ where_of a b
  unfolding where_of
  first_unmapped e = rw e

  module _ (mapped₁ : has_bit (header a).flags unmapped ≡ false) where
    pub second_unmapped : has_bit (header b).flags unmapped ≡ true → Err Unmapped ≡ where_of a b
    unfolding where_of
    second_unmapped e = rw (mapped₁, e)

    module _ (mapped₂ : has_bit (header b).flags unmapped ≡ false) where
      pub ids_differ : same_id (header a).ref_id (header b).ref_id ≡ false → Err ReferencesDiffer ≡ where_of a b
      unfolding where_of
      ids_differ e = rw (mapped₁, mapped₂, e)

      module _ (same : same_id (header a).ref_id (header b).ref_id ≡ true) where
        pub first_unplaced : position_of (header a).pos ≡ None → Err NegativePosition ≡ where_of a b
        unfolding where_of
        first_unplaced f = rw (mapped₁, mapped₂, same, f)

        module _ (p : ℕ) (at₁ : position_of (header a).pos ≡ Some p) where
          pub second_unplaced : position_of (header b).pos ≡ None → Err NegativePosition ≡ where_of a b
          unfolding where_of
          second_unplaced f = rw (mapped₁, mapped₂, same, at₁, f)

          pub both_placed : (q : ℕ) → position_of (header b).pos ≡ Some q → Ok (p, q) ≡ where_of a b
          unfolding where_of
          both_placed q e = rw (mapped₁, mapped₂, same, at₁, e)

-- where two records lie, then what each covers: that is the judgement
module _ (y z : Layout) (a b : List ℕ) (i j : ℕ) where
  pub where_judged : on_where (where_of a b) (λ p q. on_span (span_in y a p i) (λ s. on_span (span_in z b q j) (λ t. Ok (s, t)))) ≡ judged_of y z a b i j
  unfolding where_of judged_of mapped_of
  where_judged = go (has_bit (header a).flags unmapped || has_bit (header b).flags unmapped) (same_id (header a).ref_id (header b).ref_id) (position_of (header a).pos) (position_of (header b).pos)
    where
      go : (t u : Bool) (k l : Option ℕ)
          → on_where (cond t (Err Unmapped) (cond u (both_at k l) (Err ReferencesDiffer))) (λ p q. on_span (span_in y a p i) (λ s. on_span (span_in z b q j) (λ t. Ok (s, t))))
          ≡ cond t (Err (Untreateds.Apart Unmapped)) (cond u (on_position k (λ p. on_position l (λ q. on_span (span_in y a p i) (λ s. on_span (span_in z b q j) (λ t. Ok (s, t)))))) (Err (Untreateds.Apart ReferencesDiffer)))
      go true u k l = refl
      go false true (Some p) (Some q) = refl
      go false true (Some p) None = refl
      go false true None l = refl
      go false false k l = refl

  module _ (k : Result (ℕ × ℕ) Reason) (found : k ≡ where_of a b) where
    pub judged_as : (k' : Result (ℕ × ℕ) Reason) → k ≡ k' → on_where k' (λ p q. on_span (span_in y a p i) (λ s. on_span (span_in z b q j) (λ t. Ok (s, t)))) ≡ judged_of y z a b i j
    judged_as k' e = ap (λ (u : Result (ℕ × ℕ) Reason). on_where u (λ p q. on_span (span_in y a p i) (λ s. on_span (span_in z b q j) (λ t. Ok (s, t))))) (sym e ∙ found) ∙ where_judged

    -- records apart are judged so
    pub judged_apart : (r : Reason) → k ≡ Err r → Err (Untreateds.Apart r) ≡ judged_of y z a b i j
    judged_apart r e = judged_as (Err r) e

    module _ (p q : ℕ) (on : k ≡ Ok (p, q)) where
      on_one : on_span (span_in y a p i) (λ s. on_span (span_in z b q j) (λ t. Ok (s, t))) ≡ judged_of y z a b i j
      on_one = judged_as (Ok (p, q)) on

      pub first_span : (r : Refusal) → span_in y a p i ≡ Err r → Err (Untreateds.Refused r) ≡ judged_of y z a b i j
      first_span r e = rw e at on_one

      pub second_span : (s : Extent) (r : Refusal) → span_in y a p i ≡ Ok s → span_in z b q j ≡ Err r → Err (Untreateds.Refused r) ≡ judged_of y z a b i j
      second_span s r e f = rw (e, f) at on_one

      pub both_spans : (s t : Extent) → span_in y a p i ≡ Ok s → span_in z b q j ≡ Ok t → Ok (s, t) ≡ judged_of y z a b i j
      both_spans s t e f = rw (e, f) at on_one
