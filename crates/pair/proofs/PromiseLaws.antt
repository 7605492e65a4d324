-- The pair call keeps its promise, and no second outcome does.
use Rattle.std.specs.Prelude.{Result, Ok, Err, Some}
use Rattle.pair_judgement.specs.declared.Untreated.TheVariants as Untreateds
use Prim.Native.Nat.{ℕ, ◌+◌}
use mathlib.Core.Path.{◌≡◌, refl, sym, ap, subst, ◌∙◌}
use mathlib.Core.List.{List, [], ◌∷◌}
use mathlib.Core.Bool.{Bool, true, false, cond}
use mathlib.Core.Logic.{◌⊎◌, inl, inr, ⊎_elim}
use native.Mathlib.Omega.{arith}
use lib.IntN.{ℤ, pos, negsuc}
use Rattle.refusal.specs.declared.Refusal.{Refusal}
use Rattle.refusal.specs.declared.Refusal.TheVariants.{Count, Cap}
use Rattle.fields.specs.declared.Layout.{Layout}
use Rattle.fields.specs.declared.RefPos.{RefPos}
use Rattle.fields.specs.declared.ReadOffset.{ReadOffset}
use Rattle.fields.specs.Layout.{header, layout_of}
use Rattle.fields.specs.Position.{position_of}
use Rattle.fields.specs.Check.{check_of}
use Rattle.fields.specs.Sound.{Sound}
use Rattle.fields.proofs.CheckLaws.{good_sound}
use Rattle.fields.proofs.PositionLaws.{same_id_equal, equal_same_id}
use Rattle.stats.specs.Counts.{full}
use Rattle.strategy.specs.declared.Strategies.{Strategies}
use Rattle.strategy.specs.Cap.{cap_outside}
use Rattle.cigar.specs.declared.Extent.{Extent}
use Rattle.cigar.proofs.SitsLaws.{in_read}
use Rattle.fields.specs.Among.{Among}
use Rattle.positions.specs.Step.{State, job}
use Rattle.pair_merge.specs.Shared.{shared, merged}
use Rattle.pair_merge.specs.Promise.{Share, Names, Bytes}
use Rattle.pair_merge.proofs.PromiseLaws.{shared_names, promised}
use Rattle.pair_merge.proofs.UniqueLaws.{one_outcome}
use Rattle.pair_judgement.specs.declared.Reason.{Reason}
use Rattle.pair_judgement.specs.declared.Reason.TheVariants.{Unmapped, ReferencesDiffer, NegativePosition, NoReferenceLength, NoSharedPosition}
use Rattle.pair.specs.declared.Answer.{Answer}
use Rattle.pair.specs.declared.Answer.TheVariants as Answers
use Rattle.pair_judgement.specs.Judgement.{on_span, span_in, mapped_of, judged_of, Judged}
use Rattle.pair_judgement.specs.Reason.{lengthless}
use Rattle.pair.specs.Pair.{Outcome, outcome, answer_of, on_reference, on_judged, on_good, records_of, pair_of}
use Rattle.pair.specs.Promise.{NotRefused, NoOverlap, Aligned, from_one, Overlaps, Kept}
use Rattle.pair.specs.Reasons.{Reasoned}
use Rattle.pair_judgement.proofs.TreatLaws.{spanned, both_known, none_reached, nothing_shared}

-- ---- a refusal, or "no overlap", leaves all as it was
answer_of_lem : (a b : Outcome) → a ≡ b → a.answer ≡ b.answer
answer_of_lem a b e = ap (λ (o : Outcome). o.answer) e

after_of : (a b : Outcome) → a ≡ b → a.after ≡ b.after
after_of a b e = ap (λ (o : Outcome). o.after) e

-- the call ended as it came, or some position is shared and it answers "overlap"
Quiet : State → Outcome → Type 0
Quiet s o = (o.after ≡ s) ⊎ (o.answer ≡ Answers.Overlap)

quiet_judged : (w : Strategies) (y z : Layout) (s : State) (j : Judged) → Quiet s (on_judged w y z s j)
unfolding Quiet
quiet_judged w y z s (Err (Untreateds.Refused r)) = inl refl
quiet_judged w y z s (Err (Untreateds.Apart r)) = inl refl
quiet_judged w y z s (Ok (p, q)) = by_length (lengthless p q)
  where
    go : (l : List (ℕ × ℕ)) → shared y z p.start q.start s.first s.second ≡ l → (merged (job w y z) p.start q.start s ≡ s) ⊎ (answer_of l ≡ Answers.Overlap)
    go [] e = inl (sym (nothing_shared (job w y z) p.start q.start s e))
    go (x ∷ l) e = inr refl

    by_length : (t : Bool) → Quiet s (on_reference w y z s p.start q.start t)
    by_length true = inl refl
    by_length false = go (shared y z p.start q.start s.first s.second) refl

quiet_good : (k : Result Layout Refusal) (s : State) (f : Layout → Outcome) → ((y : Layout) → Quiet s (f y)) → Quiet s (on_good k s f)
unfolding Quiet
quiet_good (Ok y) s f h = h y
quiet_good (Err r) s f h = inl refl

quiet : (w : Strategies) (s : State) → Quiet s (pair_of w s)
unfolding pair_of records_of Quiet
quiet w s = go (cap_outside w.cap) (full s.stats)
  where
    go : (c t : Bool) → Quiet s (cond c (outcome (Answers.Refused Cap) s) (cond t (outcome (Answers.Refused Count) s) (records_of w s 1 2)))
    go true t = inl refl
    go false true = inl refl
    go false false = quiet_good (check_of s.first 1) s _ (λ y. quiet_good (check_of s.second 2) s _ (λ z. quiet_judged w y z s (judged_of y z s.first s.second 1 2)))

pub refused_keeps : (w : Strategies) (s u : State) (r : Refusal) → pair_of w s ≡ outcome (Answers.Refused r) u → u ≡ s
unfolding Quiet
refused_keeps w s u r e =
    ⊎_elim (λ h. sym (after_of _ _ e) ∙ h)
    (λ h. let z : ◌≡◌ {A = ℕ} 0 1 = cc (answer_of_lem _ _ e) in absurd (omega arith))
    (quiet w s)

pub apart_keeps : (w : Strategies) (s u : State) (r : Reason) → pair_of w s ≡ outcome (Answers.NoOverlap r) u → u ≡ s
unfolding Quiet
apart_keeps w s u r e =
    ⊎_elim (λ h. sym (after_of _ _ e) ∙ h)
    (λ h. let z : ◌≡◌ {A = ℕ} 0 1 = cc (answer_of_lem _ _ e) in absurd (omega arith))
    (quiet w s)

-- ---- a call that is not refused has passed the checks of both records
pub record Passed (w : Strategies) (s : State) (o : Outcome) : Type 0 where
  pub first : Sound s.first (layout_of s.first)
  pub second : Sound s.second (layout_of s.second)
  pub judged : on_judged w (layout_of s.first) (layout_of s.second) s (judged_of (layout_of s.first) (layout_of s.second) s.first s.second 1 2) ≡ o

good_layout : (s : List ℕ) (p : ℕ) (y : Layout) → check_of s p ≡ Ok y → (y ≡ layout_of s) × Sound s (layout_of s)
good_layout s p y e =
    let g = good_sound s p y e in
    (g.layout, subst (λ (x : Layout). Sound s x) g.layout g)

pub passed : (w : Strategies) (s : State) (o : Outcome) → pair_of w s ≡ o → NotRefused o → Passed w s o
unfolding pair_of records_of
passed w s o e n = on_cap (cap_outside w.cap) e
  where
    rest : (y z : Layout) → Outcome
    rest y z = on_judged w y z s (judged_of y z s.first s.second 1 2)

    on_second : (y z : Layout) → check_of s.first 1 ≡ Ok y → check_of s.second 2 ≡ Ok z → on_judged w y z s (judged_of y z s.first s.second 1 2) ≡ o → Passed w s o
    on_second y z f g h =
        let a = good_layout s.first 1 y f in
        let b = good_layout s.second 2 z g in
        record { first = a.1; second = b.1; judged = (rw (a.0, b.0) at h) }

    on_first : (y : Layout) → check_of s.first 1 ≡ Ok y → (k : Result Layout Refusal) → check_of s.second 2 ≡ k → on_good k s (λ z. on_judged w y z s (judged_of y z s.first s.second 1 2)) ≡ o → Passed w s o
    on_first y f (Ok z) g h = on_second y z f g h
    on_first y f (Err r) g h = absurd (n r (sym (answer_of_lem _ _ h)))

    on_records : (k : Result Layout Refusal) → check_of s.first 1 ≡ k → on_good k s (λ y. on_good (check_of s.second 2) s (λ z. on_judged w y z s (judged_of y z s.first s.second 1 2))) ≡ o → Passed w s o
    on_records (Ok y) f h = on_first y f (check_of s.second 2) refl h
    on_records (Err r) f h = absurd (n r (sym (answer_of_lem _ _ h)))

    on_full : (t : Bool) → cond t (outcome (Answers.Refused Count) s) (records_of w s 1 2) ≡ o → Passed w s o
    on_full true h = absurd (n Count (sym (answer_of_lem _ _ h)))
    on_full false h = on_records (check_of s.first 1) refl h

    on_cap : (t : Bool) → cond t (outcome (Answers.Refused Cap) s) (cond (full s.stats) (outcome (Answers.Refused Count) s) (records_of w s 1 2)) ≡ o → Passed w s o
    on_cap true h = absurd (n Cap (sym (answer_of_lem _ _ h)))
    on_cap false h = on_full (full s.stats) h

-- ---- aligned records are refused by their operations or placed, and never apart for what their headers say
placed_at : (z : ℤ) (n : ℕ) → z ≡ pos n → position_of z ≡ Some n
placed_at z n e = ap position_of e

aligned_judged : (y z : Layout) (a b : List ℕ) (i j : ℕ) (al : Aligned a b)
    → on_span (span_in y a al.pos₁ i) (λ s. on_span (span_in z b al.pos₂ j) (λ t. Ok (s, t))) ≡ judged_of y z a b i j
unfolding judged_of mapped_of
aligned_judged y z a b i j al =
    rw (al.mapped₁, al.mapped₂, equal_same_id (header a).ref_id (header b).ref_id al.reference, placed_at (header a).pos al.pos₁ al.placed₁, placed_at (header b).pos al.pos₂ al.placed₂)

-- ---- demand 3
module _ (w : Strategies) (s : State) where
  abbrev y : Layout
  y = layout_of s.first

  abbrev z : Layout
  z = layout_of s.second

  -- what is said of two records that share the positions l: "no overlap", for whatever reason, where there is none
  data Says : List (ℕ × ℕ) → Answer → Type 0 where
    none_said : (r : Reason) → Says [] (Answers.NoOverlap r)
    some_said : (x : ℕ × ℕ) (l : List (ℕ × ℕ)) → Says (x ∷ l) Answers.Overlap

  says_answer : (l : List (ℕ × ℕ)) → Says l (answer_of l)
  says_answer [] = none_said NoSharedPosition
  says_answer (x ∷ l) = some_said x l

  abbrev SomeShared : RefPos → RefPos → Type 0
  SomeShared p q = (i : ReadOffset) × ((j : ReadOffset) × Share y z p q s i j)

  some_position : (p q : RefPos) (l : List (ℕ × ℕ)) (r : Answer) → Names y z p q s l → Says l r → r ≡ Answers.Overlap → SomeShared p q
  unfolding Among
  some_position p q l r n (none_said x) e = let h : ◌≡◌ {A = ℕ} 0 1 = cc in absurd (omega arith)
  some_position p q l r n (some_said x m) e = (in_read x.0, (in_read x.1, n.only (in_read x.0) (in_read x.1) (inl (refl, refl))))

  answered : (p q : RefPos) (l : List (ℕ × ℕ)) (r : Answer) → Names y z p q s l → Says l r → SomeShared p q → r ≡ Answers.Overlap
  unfolding Among
  answered p q l r n (none_said x) h = absurd (n.all h.0 h.1.0 h.1.1)
  answered p q l r n (some_said x m) h = refl

  none_shared : (p q : RefPos) (l : List (ℕ × ℕ)) (r : Answer) → Names y z p q s l → Says l r → (SomeShared p q → ⊥) → (x : Reason) × (r ≡ Answers.NoOverlap x)
  none_shared p q l r n (none_said x) h = (x, refl)
  none_shared p q l r n (some_said x m) h = absurd (h (some_position p q (x ∷ m) Answers.Overlap n (some_said x m) refl))

  not_both : (r : Answer) (x : Reason) → r ≡ Answers.NoOverlap x → r ≡ Answers.Overlap → ⊥
  not_both r x e f = let h : ◌≡◌ {A = ℕ} 0 1 = cc in omega arith

  -- the outcome of two records that start at p and q, counted from 0
  kept_at : (p q : ℕ) (r : Answer) → Sound s.first y → Sound s.second z → Says (shared y z (from_one p) (from_one q) s.first s.second) r
      → Kept w s (outcome r (merged (job w y z) (from_one p) (from_one q) s)) p q
  kept_at p q r g h says =
      let l = shared y z (from_one p) (from_one q) s.first s.second in
      let n = shared_names w y z (from_one p) (from_one q) s in
      record {
        overlap = ((λ e. some_position (from_one p) (from_one q) l r n says e), λ o. answered (from_one p) (from_one q) l r n says o);
        apart = ((λ e o. not_both r e.0 e.1 (answered (from_one p) (from_one q) l r n says o)), λ o. none_shared (from_one p) (from_one q) l r n says o);
        corrected = promised w y z (from_one p) (from_one q) s (record { first = g.lies; second = h.lies });
      }

  pub promise : (o : Outcome) → pair_of w s ≡ o → NotRefused o → (al : Aligned s.first s.second) → Kept w s o al.pos₁ al.pos₂
  promise o e n al =
      let m = passed w s o e n in
      first_span m.first m.second (span_in y s.first al.pos₁ 1) refl
      (ap (on_judged w y z s) (aligned_judged y z s.first s.second 1 2 al) ∙ m.judged)
    where
      starts : (pos₀ : ℕ) (x : RefPos) → x.0 ≡ pos₀ + 1 → x ≡ from_one pos₀
      starts pos₀ x f = λ i. record { 0 = f i }

      second_span : (x : Extent) → Sound s.first y → Sound s.second z → span_in y s.first al.pos₁ 1 ≡ Ok x → (v : Result Extent Refusal) → span_in z s.second al.pos₂ 2 ≡ v
          → on_judged w y z s (on_span v (λ t. Ok (x, t))) ≡ o → Kept w s o al.pos₁ al.pos₂
      second_span x g h f (Ok t) k i = by_length (lengthless x t) refl i
        where
          l : List (ℕ × ℕ)
          l = shared y z (from_one al.pos₁) (from_one al.pos₂) s.first s.second

          by_length : (c : Bool) → lengthless x t ≡ c
              → on_reference w y z s x.start t.start c ≡ o → Kept w s o al.pos₁ al.pos₂
          by_length true c j =
              let e = none_reached y z (from_one al.pos₁) (from_one al.pos₂) s.first s.second x t (spanned y _ _ 1 x f) (spanned z _ _ 2 t k) c in
              let u = nothing_shared (job w y z) (from_one al.pos₁) (from_one al.pos₂) s e in
              subst (λ (v : Outcome). Kept w s v al.pos₁ al.pos₂) (ap (outcome (Answers.NoOverlap NoReferenceLength)) (sym u) ∙ j)
              (kept_at al.pos₁ al.pos₂ (Answers.NoOverlap NoReferenceLength) g h (rw e (none_said NoReferenceLength)))
          by_length false c j =
              let a = starts al.pos₁ x.start (spanned y s.first al.pos₁ 1 x f).first in
              let b = starts al.pos₂ t.start (spanned z s.second al.pos₂ 2 t k).first in
              subst (λ (u : Outcome). Kept w s u al.pos₁ al.pos₂) (rw (a, b) at j)
              (kept_at al.pos₁ al.pos₂ (answer_of l) g h (says_answer l))
      second_span x g h f (Err r) k i = absurd (n r (sym (answer_of_lem _ _ i)))

      first_span : Sound s.first y → Sound s.second z → (u : Result Extent Refusal) → span_in y s.first al.pos₁ 1 ≡ u
          → on_judged w y z s (on_span u (λ t. on_span (span_in z s.second al.pos₂ 2) (λ v. Ok (t, v)))) ≡ o → Kept w s o al.pos₁ al.pos₂
      first_span g h (Ok x) f i = second_span x g h f (span_in z s.second al.pos₂ 2) refl i
      first_span g h (Err r) f i = absurd (n r (sym (answer_of_lem _ _ i)))

  -- only aligned records overlap
  pub overlap_aligned : (u : State) → pair_of w s ≡ outcome Answers.Overlap u → Aligned s.first s.second
  overlap_aligned u e =
      let m = passed w s (outcome Answers.Overlap u) e (λ r f. let x : ◌≡◌ {A = ℕ} 0 1 = cc in omega arith) in
      go (judged_of y z s.first s.second 1 2) refl m.judged
    where
      is_pos : (v : ℤ) (n : ℕ) → position_of v ≡ Some n → v ≡ pos n
      is_pos (pos m) n f = ap pos (cc)
      is_pos (negsuc m) n f = let x : ◌≡◌ {A = ℕ} 0 1 = cc in absurd (omega arith)

      go : (j : Judged) → judged_of y z s.first s.second 1 2 ≡ j → on_judged w y z s j ≡ outcome Answers.Overlap u → Aligned s.first s.second
      go (Err (Untreateds.Refused r)) f h = let x : ◌≡◌ {A = ℕ} 0 1 = cc (answer_of_lem _ _ h) in absurd (omega arith)
      go (Err (Untreateds.Apart r)) f h = let x : ◌≡◌ {A = ℕ} 0 1 = cc (answer_of_lem _ _ h) in absurd (omega arith)
      go (Ok (p, q)) f h =
          let k = both_known y z s.first s.second 1 2 p q f in
          record {
            mapped₁ = k.mapped₁;
            mapped₂ = k.mapped₂;
            reference = same_id_equal _ _ k.reference;
            pos₁ = k.pos₁;
            pos₂ = k.pos₂;
            placed₁ = is_pos _ k.pos₁ k.placed₁;
            placed₂ = is_pos _ k.pos₂ k.placed₂;
          }

  -- ---- no second outcome fits
  module _ (p q : ℕ) (g : Sound s.first y) (h : Sound s.second z) (a b : Outcome) (ka : Kept w s a p q) (kb : Kept w s b p q) (ra : Reasoned s a) (rb : Reasoned s b) where
    same_answer : (r : Answer) → a.answer ≡ r → a.answer ≡ b.answer
    same_answer Answers.Overlap e = e ∙ sym (kb.overlap.1 (ka.overlap.0 e))
    same_answer (Answers.NoOverlap Unmapped) e = e ∙ sym (rb.unmapped.1 (ra.unmapped.0 e))
    same_answer (Answers.NoOverlap ReferencesDiffer) e = e ∙ sym (rb.references.1 (ra.references.0 e))
    same_answer (Answers.NoOverlap NegativePosition) e = e ∙ sym (rb.negative.1 (ra.negative.0 e))
    same_answer (Answers.NoOverlap NoReferenceLength) e = e ∙ sym (rb.lengthless.1 (ra.lengthless.0 e))
    same_answer (Answers.NoOverlap NoSharedPosition) e = e ∙ sym (rb.unshared.1 (ra.unshared.0 e))
    same_answer (Answers.Refused r) e =
        let none : Overlaps s p q → ⊥ = λ o. not_refused (ka.overlap.1 o) in
        absurd (not_refused' (ka.apart.1 none))
      where
        not_refused : a.answer ≡ Answers.Overlap → ⊥
        not_refused f = let x : ◌≡◌ {A = ℕ} 0 1 = cc in omega arith

        not_refused' : NoOverlap a → ⊥
        not_refused' f = let x : ◌≡◌ {A = ℕ} 0 1 = cc f.1 in omega arith

    pub one_fits : Bytes a.after.first → Bytes b.after.first → Bytes a.after.second → Bytes b.after.second → a ≡ b
    one_fits b1 b2 b3 b4 =
        let answers = same_answer a.answer refl in
        let states = one_outcome w y z (from_one p) (from_one q) s (record { first = g.lies; second = h.lies }) a.after b.after ka.corrected kb.corrected b1 b2 b3 b4 in
        λ i. record { answer = answers i; after = states i }
