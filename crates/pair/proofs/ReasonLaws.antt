-- Each reason is given exactly when the wish says, for every two records whose call is not refused.
use Rattle.std.specs.Prelude.{Result, Ok, Err}
use Rattle.refusal.specs.declared.Refusal.{Refusal}
use Rattle.pair_judgement.specs.declared.Untreated.TheVariants as Untreateds
use Prim.Native.Nat.{ℕ}
use mathlib.Core.Path.{◌≡◌, refl, sym, subst}
use mathlib.Core.List.{List, [], ◌∷◌}
use mathlib.Core.Bool.{Bool, true, false, cond, ◌||◌}
use mathlib.Core.Logic.{◌⊎◌, inl, inr, ⊎_elim}
use native.Mathlib.Omega.{arith}
use lib.IntN.{ℤ, pos, negsuc}
use Rattle.fields.specs.declared.Layout.{Layout}
use Rattle.fields.specs.Flag.{has_bit, unmapped}
use Rattle.fields.specs.Layout.{header, layout_of}
use Rattle.fields.specs.Position.{position_of, same_id}
use Rattle.fields.proofs.PositionLaws.{same_id_equal, equal_same_id}
use Rattle.strategy.specs.declared.Strategies.{Strategies}
use Rattle.cigar.specs.declared.Extent.{Extent}
use Rattle.positions.specs.Step.{State}
use Rattle.pair_merge.specs.Shared.{shared}
use Rattle.pair_judgement.specs.declared.Reason.TheVariants.{Unmapped, ReferencesDiffer, NegativePosition, NoReferenceLength, NoSharedPosition}
use Rattle.pair_judgement.specs.Judgement.{on_span, on_position, span_in, mapped_of, judged_of}
use Rattle.pair_judgement.specs.Reason.{covers_none}
use Rattle.pair_judgement.proofs.TreatLaws.{spanned, none_covered, some_covered}
use Rattle.pair.specs.declared.Answer.{Answer}
use Rattle.pair.specs.declared.Answer.TheVariants as Answers
use Rattle.pair.specs.Pair.{Outcome, answer_of, on_reference, on_judged, pair_of}
use Rattle.pair.specs.Promise.{NotRefused, Aligned, Kept}
use Rattle.pair.specs.Reasons.{IsUnmapped, Mapped, Differ, Negative, Lengthless, Reasoned}
use Rattle.pair.proofs.PromiseLaws.{passed, promise}

module _ (s : State) where
  abbrev a : List ℕ
  a = s.first

  abbrev b : List ℕ
  b = s.second

  -- what each answer is given for; whether positions are shared demand 3 says
  data Given : Answer → Type 0 where
    by_unmapped : IsUnmapped a ⊎ IsUnmapped b → Given (Answers.NoOverlap Unmapped)
    by_references : Mapped a b → Differ a b → Given (Answers.NoOverlap ReferencesDiffer)
    by_negative : Mapped a b → (header a).ref_id ≡ (header b).ref_id → Negative a ⊎ Negative b → Given (Answers.NoOverlap NegativePosition)
    by_length : Aligned a b → Lengthless a ⊎ Lengthless b → Given (Answers.NoOverlap NoReferenceLength)
    by_unshared : Aligned a b → (Lengthless a ⊎ Lengthless b → ⊥) → Given (Answers.NoOverlap NoSharedPosition)
    by_overlap : Aligned a b → (Lengthless a ⊎ Lengthless b → ⊥) → Given Answers.Overlap

  given_answer : Aligned a b → (Lengthless a ⊎ Lengthless b → ⊥) → (l : List (ℕ × ℕ)) → Given (answer_of l)
  given_answer al n [] = by_unshared al n
  given_answer al n (e ∷ l) = by_overlap al n

  -- a call that is not refused answers for one of these
  module _ (w : Strategies) (o : Outcome) (n : NotRefused o) where
    abbrev y : Layout
    y = layout_of a

    abbrev z : Layout
    z = layout_of b

    answer_as : {u : Outcome} → u ≡ o → Given u.answer → Given o.answer
    answer_as e g = rw e at g

    not_here : {u : Outcome} → u ≡ o → NotRefused u
    not_here {u} e = subst (λ (v : Outcome). NotRefused v) (sym e) n

    -- both on one reference, and each record passed step 7
    given_reached : (al : Aligned a b) (x t : Extent) → span_in y a al.pos₁ 1 ≡ Ok x → span_in z b al.pos₂ 2 ≡ Ok t
        → on_judged w y z s (Ok (x, t)) ≡ o → Given o.answer
    given_reached al x t f g e = go (covers_none x) (covers_none t) refl refl e
      where
        go : (c d : Bool) → covers_none x ≡ c → covers_none t ≡ d
            → on_reference w y z s x.start t.start (c || d) ≡ o → Given o.answer
        go true d p q h = answer_as h (by_length al (inl (none_covered (spanned y a _ 1 x f) p)))
        go false true p q h = answer_as h (by_length al (inr (none_covered (spanned z b _ 2 t g) q)))
        go false false p q h =
            answer_as h
            (given_answer al (⊎_elim (some_covered (spanned y a _ 1 x f) p) (some_covered (spanned z b _ 2 t g) q))
            (shared y z x.start t.start a b))

    given_spans : (al : Aligned a b) → on_judged w y z s (on_span (span_in y a al.pos₁ 1) (λ x. on_span (span_in z b al.pos₂ 2) (λ t. Ok (x, t)))) ≡ o → Given o.answer
    given_spans al e = one (span_in y a al.pos₁ 1) refl e
      where
        two : (x : Extent) → span_in y a al.pos₁ 1 ≡ Ok x → (v : Result Extent Refusal) → span_in z b al.pos₂ 2 ≡ v → on_judged w y z s (on_span v (λ t. Ok (x, t))) ≡ o → Given o.answer
        two x f (Ok t) g h = given_reached al x t f g h
        two x f (Err r) g h = absurd (not_here h r refl)

        one : (u : Result Extent Refusal) → span_in y a al.pos₁ 1 ≡ u → on_judged w y z s (on_span u (λ x. on_span (span_in z b al.pos₂ 2) (λ t. Ok (x, t)))) ≡ o → Given o.answer
        one (Ok x) f h = two x f (span_in z b al.pos₂ 2) refl h
        one (Err r) f h = absurd (not_here h r refl)

    -- positions
    given_placed : (m : Mapped a b) (same : (header a).ref_id ≡ (header b).ref_id) (u v : ℤ) → (header a).pos ≡ u → (header b).pos ≡ v
        → on_judged w y z s (on_position (position_of u) (λ p. on_position (position_of v) (λ q. on_span (span_in y a p 1) (λ x. on_span (span_in z b q 2) (λ t. Ok (x, t)))))) ≡ o
        → Given o.answer
    given_placed m same (pos p) (pos q) f g e =
        given_spans (record { mapped₁ = m.first; mapped₂ = m.second; reference = same; pos₁ = p; pos₂ = q; placed₁ = f; placed₂ = g }) e
    given_placed m same (pos p) (negsuc q) f g e = answer_as e (by_negative m same (inr (q, g)))
    given_placed m same (negsuc p) v f g e = answer_as e (by_negative m same (inl (p, f)))

    given : on_judged w y z s (judged_of y z a b 1 2) ≡ o → Given o.answer
    unfolding judged_of mapped_of
    given e = go (has_bit (header a).flags unmapped) (has_bit (header b).flags unmapped) (same_id (header a).ref_id (header b).ref_id) refl refl refl e
      where
        go : (t u v : Bool) → has_bit (header a).flags unmapped ≡ t → has_bit (header b).flags unmapped ≡ u → same_id (header a).ref_id (header b).ref_id ≡ v
            → on_judged w y z s (cond (t || u) (Err (Untreateds.Apart Unmapped)) (cond v
            (on_position (position_of (header a).pos) (λ p. on_position (position_of (header b).pos) (λ q. on_span (span_in y a p 1) (λ x. on_span (span_in z b q 2) (λ t. Ok (x, t))))))
            (Err (Untreateds.Apart ReferencesDiffer)))) ≡ o → Given o.answer
        go true u v f g h i = answer_as i (by_unmapped (inl f))
        go false true v f g h i = answer_as i (by_unmapped (inr g))
        go false false true f g h i = given_placed (record { first = f; second = g }) (same_id_equal _ _ h) (header a).pos (header b).pos refl refl i
        go false false false f g h i = answer_as i (by_references (record { first = f; second = g }) (λ e. differ (equal_same_id _ _ e)))
          where
            differ : same_id (header a).ref_id (header b).ref_id ≡ true → ⊥
            differ k = let c : ◌≡◌ {A = ℕ} 0 1 = cc in omega arith

  -- ---- no two causes hold at once
  mapped_of_lem : Aligned a b → Mapped a b
  mapped_of_lem al = record { first = al.mapped₁; second = al.mapped₂ }

  not_unmapped : Mapped a b → IsUnmapped a ⊎ IsUnmapped b → ⊥
  not_unmapped m (inl c) = let x : ◌≡◌ {A = ℕ} 0 1 = cc m.first in omega arith
  not_unmapped m (inr c) = let x : ◌≡◌ {A = ℕ} 0 1 = cc m.second in omega arith

  not_negative : Aligned a b → Negative a ⊎ Negative b → ⊥
  not_negative al (inl c) = let x : ◌≡◌ {A = ℕ} 0 1 = cc (al.placed₁, c.1) in omega arith
  not_negative al (inr c) = let x : ◌≡◌ {A = ℕ} 0 1 = cc (al.placed₂, c.1) in omega arith

  -- ---- so each cause has its reason
  unmapped_given : (r : Answer) → Given r → IsUnmapped a ⊎ IsUnmapped b → r ≡ Answers.NoOverlap Unmapped
  unmapped_given r (by_unmapped c) k = refl
  unmapped_given r (by_references m d) k = absurd (not_unmapped m k)
  unmapped_given r (by_negative m same c) k = absurd (not_unmapped m k)
  unmapped_given r (by_length al c) k = absurd (not_unmapped (mapped_of_lem al) k)
  unmapped_given r (by_unshared al c) k = absurd (not_unmapped (mapped_of_lem al) k)
  unmapped_given r (by_overlap al c) k = absurd (not_unmapped (mapped_of_lem al) k)

  references_given : (r : Answer) → Given r → Mapped a b → Differ a b → r ≡ Answers.NoOverlap ReferencesDiffer
  references_given r (by_unmapped c) m k = absurd (not_unmapped m c)
  references_given r (by_references m' d) m k = refl
  references_given r (by_negative m' same c) m k = absurd (k same)
  references_given r (by_length al c) m k = absurd (k al.reference)
  references_given r (by_unshared al c) m k = absurd (k al.reference)
  references_given r (by_overlap al c) m k = absurd (k al.reference)

  negative_given : (r : Answer) → Given r → Mapped a b → (header a).ref_id ≡ (header b).ref_id → Negative a ⊎ Negative b → r ≡ Answers.NoOverlap NegativePosition
  negative_given r (by_unmapped c) m e k = absurd (not_unmapped m c)
  negative_given r (by_references m' d) m e k = absurd (d e)
  negative_given r (by_negative m' same c) m e k = refl
  negative_given r (by_length al c) m e k = absurd (not_negative al k)
  negative_given r (by_unshared al c) m e k = absurd (not_negative al k)
  negative_given r (by_overlap al c) m e k = absurd (not_negative al k)

  length_given : (r : Answer) → Given r → Aligned a b → Lengthless a ⊎ Lengthless b → r ≡ Answers.NoOverlap NoReferenceLength
  length_given r (by_unmapped c) al k = absurd (not_unmapped (mapped_of_lem al) c)
  length_given r (by_references m d) al k = absurd (d al.reference)
  length_given r (by_negative m same c) al k = absurd (not_negative al c)
  length_given r (by_length al' c) al k = refl
  length_given r (by_unshared al' c) al k = absurd (c k)
  length_given r (by_overlap al' c) al k = absurd (c k)

  unshared_given : (r : Answer) → Given r → Aligned a b → (Lengthless a ⊎ Lengthless b → ⊥) → (r ≡ Answers.Overlap → ⊥) → r ≡ Answers.NoOverlap NoSharedPosition
  unshared_given r (by_unmapped c) al k n = absurd (not_unmapped (mapped_of_lem al) c)
  unshared_given r (by_references m d) al k n = absurd (d al.reference)
  unshared_given r (by_negative m same c) al k n = absurd (not_negative al c)
  unshared_given r (by_length al' c) al k n = absurd (k c)
  unshared_given r (by_unshared al' c) al k n = refl
  unshared_given r (by_overlap al' c) al k n = absurd (n refl)

  -- ---- and each reason its cause
  unmapped_of : Given (Answers.NoOverlap Unmapped) → IsUnmapped a ⊎ IsUnmapped b
  unmapped_of (by_unmapped c) = c

  references_of : Given (Answers.NoOverlap ReferencesDiffer) → Mapped a b × Differ a b
  references_of (by_references m d) = (m, d)

  negative_of : Given (Answers.NoOverlap NegativePosition) → Mapped a b × ((header a).ref_id ≡ (header b).ref_id) × (Negative a ⊎ Negative b)
  negative_of (by_negative m same c) = (m, same, c)

  length_of : Given (Answers.NoOverlap NoReferenceLength) → Aligned a b × (Lengthless a ⊎ Lengthless b)
  length_of (by_length al c) = (al, c)

  unshared_of_lem : Given (Answers.NoOverlap NoSharedPosition) → Aligned a b × (Lengthless a ⊎ Lengthless b → ⊥)
  unshared_of_lem (by_unshared al c) = (al, c)

  -- the theorem
  pub reasons : (w : Strategies) (o : Outcome) → pair_of w s ≡ o → NotRefused o → Reasoned s o
  reasons w o e n =
      record {
        unmapped = (λ f. unmapped_of (rw f at g), unmapped_given o.answer g);
        references = (λ f. references_of (rw f at g), λ c. references_given o.answer g c.0 c.1);
        negative = (λ f. negative_of (rw f at g), λ c. negative_given o.answer g c.0 c.1 c.2);
        lengthless = (λ f. length_of (rw f at g), λ c. length_given o.answer g c.0 c.1);
        unshared = (
          λ f. let c = unshared_of_lem (rw f at g) in (c.0, c.1, λ x. not_both f ((kept c.0).overlap.1 x)),
          λ c. unshared_given o.answer g c.0 c.1 (λ f. c.2 ((kept c.0).overlap.0 f)),
        );
      }
    where
      g : Given o.answer
      g = given w o n (passed w s o e n).judged

      kept : (al : Aligned a b) → Kept w s o al.pos₁ al.pos₂
      kept al = promise w s o e n al

      not_both : o.answer ≡ Answers.NoOverlap NoSharedPosition → o.answer ≡ Answers.Overlap → ⊥
      not_both f h = let x : ◌≡◌ {A = ℕ} 0 1 = cc in omega arith
