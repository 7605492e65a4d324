-- Records i and j of a group are judged as the pair call judges them: with its answer, or refused by the number of its refusal, at the
-- index of the record that it names. Assumes nothing.
use Rattle.std.specs.Prelude.{Result, Option, Ok, Err, Some, None}
use Rattle.cigar.specs.declared.Totals.{Totals}
use Rattle.pair_judgement.specs.declared.Untreated.TheVariants as Untreateds
use Prim.Native.Nat.{ℕ, ◌+◌}
use mathlib.Core.Path.{◌≡◌, refl, sym, ap, ◌∙◌}
use mathlib.Core.Bool.{Bool, true, false, cond, ◌&&◌, ◌||◌, not}
use mathlib.Core.List.{List, [], ◌∷◌}
use native.Mathlib.Omega.{arith}
use lib.Dec.{eqb, ltb}
use lib.ListN.{length}
use Rattle.refusal.specs.declared.Refusal.{Refusal}
use Rattle.refusal.specs.declared.Refusal.TheVariants.{RecordShort, RecordLong, NameAndOperations, BasesAndQualities, OperationCode, ReadTotal, ReferenceEnd}
use Rattle.refusal.specs.declared.Row.{Row}
use Rattle.refusal.specs.Table.{plain, row_of, number_of, place_of, operation_of}
use Rattle.fields.specs.declared.Layout.{Layout}
use Rattle.fields.specs.Flag.{has_bit, unmapped}
use Rattle.fields.specs.Layout.{header, bases_at, tags_at, layout_of}
use Rattle.fields.specs.Position.{position_of, same_id}
use Rattle.fields.specs.Check.{check_of}
use Rattle.strategy.specs.declared.Strategies.{Strategies}
use Rattle.cigar.specs.declared.Extent.{Extent}
use Rattle.cigar.specs.Operation.{ops_in}
use Rattle.cigar.specs.Judge.{walk_of, judged, operations_of, extent, span_of}
use Rattle.positions.specs.Step.{State}
use Rattle.pair_merge.specs.Shared.{shared}
use Rattle.pair_judgement.specs.declared.Reason.{Reason}
use Rattle.pair_judgement.specs.declared.Reason.TheVariants.{Unmapped, ReferencesDiffer, NegativePosition, NoReferenceLength, NoSharedPosition}
use Rattle.pair_judgement.specs.Reason.{lengthless}
use Rattle.pair_judgement.specs.Judgement.{on_uses, on_span, on_position, span_in, mapped_of, judged_of, Judged}
use Rattle.pair.specs.declared.Answer.{Answer}
use Rattle.pair.specs.declared.Answer.TheVariants as Answers
use Rattle.pair.specs.Pair.{Outcome, answer_of, on_reference, on_judged, on_good, records_of}
use Rattle.group_verdicts.specs.Judged.{both_at, pair_at, judged_at, Named, apart, overlap, at_first, at_second}

-- ---- one record, named by x and named by y
-- r at x and q at y are one refusal
record Same (x y : ℕ) (r q : Refusal) : Type 0 where
  number : number_of q ≡ number_of r
  operation : operation_of q ≡ operation_of r
  was : place_of r ≡ x
  is : place_of q ≡ y

-- two answers of a step: both pass, and with the same; or both refuse the record
data Alike {A B : Type 0} (good : B → A) (bad : Refusal → A) (x y : ℕ) : A → A → Type 0 where
  fine : (b : B) → Alike good bad x y (good b) (good b)
  faulty : (r q : Refusal) → Same x y r q → Alike good bad x y (bad r) (bad q)

module _ (x y : ℕ) where
  -- a refusal that has one number n and one operation i at all places
  refused : {A B : Type 0} {good : B → A} {bad : Refusal → A} (f : ℕ → Refusal) (n i : ℕ) → ((p : ℕ) → row_of (f p) ≡ record { number = n; at = p; operation = i })
      → Alike good bad x y (bad (f x)) (bad (f y))
  refused f n i e =
      let number : (p : ℕ) → number_of (f p) ≡ n = λ p. ap (λ (k : Row). k.number) (e p) in
      let at : (p : ℕ) → place_of (f p) ≡ p = λ p. ap (λ (k : Row). k.at) (e p) in
      let operation : (p : ℕ) → operation_of (f p) ≡ i = λ p. ap (λ (k : Row). k.operation) (e p) in
      faulty (f x) (f y) (record { number = number y ∙ sym (number x); operation = operation y ∙ sym (operation x); was = at x; is = at y })

  -- such a refusal where t says so; else the rest
  refuses : {A B : Type 0} {good : B → A} {bad : Refusal → A} {a b : A} (t : Bool) (f : ℕ → Refusal) (n : ℕ) → ((p : ℕ) → row_of (f p) ≡ plain n p)
      → Alike good bad x y a b → Alike good bad x y (cond t (bad (f x)) a) (cond t (bad (f y)) b)
  refuses true f n e rest = refused f n 0 e
  refuses false f n e rest = rest

  -- 1 to 4
  check_alike : (s : List ℕ) → Alike Ok Err x y (check_of s x) (check_of s y)
  unfolding check_of
  check_alike s =
      refuses (ltb (length s) 32) RecordShort 1 (λ p. refl)
      (refuses (ltb 65536 (length s)) RecordLong 2 (λ p. refl)
      (refuses (ltb (length s) (bases_at s)) NameAndOperations 3 (λ p. refl)
      (refuses (ltb (length s) (tags_at s)) BasesAndQualities 4 (λ p. refl)
      (fine (layout_of s)))))

  -- 5 and 7
  judged_alike : (count n : ℕ) (k : Result Totals ℕ) → Alike Ok Err x y (judged count n x k) (judged count n y k)
  judged_alike count n (Ok t) = refuses (ltb 0 count && ltb 0 n && not (eqb t.read count)) ReadTotal 7 (λ p. refl) (fine t.reference)
  judged_alike count n (Err i) = refused (λ p. OperationCode p i) 5 i (λ p. refl)

  -- 8
  end_alike : (pos n : ℕ) → Alike Ok Err x y (span_of pos n x) (span_of pos n y)
  unfolding span_of
  end_alike pos n = refuses (ltb 2147483646 (pos + n)) ReferenceEnd 8 (λ p. refl) (fine (extent pos n))

  -- 5, 7 and 8
  span_alike : (z : Layout) (s : List ℕ) (pos : ℕ) → Alike Ok Err x y (span_in z s pos x) (span_in z s pos y)
  unfolding span_in operations_of
  span_alike z s pos = go _ _ (judged_alike z.count (length (ops_in z s)) (walk_of (ops_in z s)))
    where
      go : (k k' : Result ℕ Refusal) → Alike Ok Err x y k k'
          → Alike Ok Err x y (on_uses k (λ n. span_of pos n x)) (on_uses k' (λ n. span_of pos n y))
      go k k' (fine n) = end_alike pos n
      go k k' (faulty r q h) = faulty r q h

-- ---- both records: named by 1 and 2, and by i and j
module _ (i j : ℕ) where
  -- two judgements: the same; or both refuse the first, or both the second
  data Judges : Judged → Judged → Type 0 where
    placeless : (r : Reason) → Judges (Err (Untreateds.Apart r)) (Err (Untreateds.Apart r))
    both : (p q : Extent) → Judges (Ok (p, q)) (Ok (p, q))
    of_first : (r q : Refusal) → Same 1 i r q → Judges (Err (Untreateds.Refused r)) (Err (Untreateds.Refused q))
    of_second : (r q : Refusal) → Same 2 j r q → Judges (Err (Untreateds.Refused r)) (Err (Untreateds.Refused q))

  -- step 7
  spans_judge : (u u' v v' : Result Extent Refusal) → Alike Ok Err 1 i u u' → Alike Ok Err 2 j v v'
      → Judges (on_span u (λ s. on_span v (λ t. Ok (s, t)))) (on_span u' (λ s. on_span v' (λ t. Ok (s, t))))
  spans_judge u u' v v' (fine p) (fine q) = both p q
  spans_judge u u' v v' (fine p) (faulty r q h) = of_second r q h
  spans_judge u u' v v' (faulty r q h) k = of_first r q h

  -- steps 5 to 7
  mapped_judge : (y z : Layout) (a b : List ℕ) → Judges (mapped_of y z a b 1 2) (mapped_of y z a b i j)
  unfolding mapped_of
  mapped_judge y z a b = go (same_id (header a).ref_id (header b).ref_id) (position_of (header a).pos) (position_of (header b).pos)
    where
      by : Bool → Option ℕ → Option ℕ → ℕ → ℕ → Judged
      by t u v m n = cond t (on_position u (λ p. on_position v (λ q. on_span (span_in y a p m) (λ s. on_span (span_in z b q n) (λ t. Ok (s, t)))))) (Err (Untreateds.Apart ReferencesDiffer))

      go : (t : Bool) (u v : Option ℕ) → Judges (by t u v 1 2) (by t u v i j)
      go true (Some p) (Some q) = spans_judge _ _ _ _ (span_alike 1 i y a p) (span_alike 2 j z b q)
      go true (Some p) None = placeless NegativePosition
      go true None v = placeless NegativePosition
      go false u v = placeless ReferencesDiffer

  -- steps 4 to 7
  judged_judge : (y z : Layout) (a b : List ℕ) → Judges (judged_of y z a b 1 2) (judged_of y z a b i j)
  unfolding judged_of
  judged_judge y z a b = go (has_bit (header a).flags unmapped || has_bit (header b).flags unmapped)
    where
      go : (t : Bool) → Judges (cond t (Err (Untreateds.Apart Unmapped)) (mapped_of y z a b 1 2)) (cond t (Err (Untreateds.Apart Unmapped)) (mapped_of y z a b i j))
      go true = placeless Unmapped
      go false = mapped_judge y z a b

  -- steps 3 to 9
  records_named : (w : Strategies) (s : State) → Named i j (records_of w s 1 2).answer (records_of w s i j).answer
  unfolding records_of
  records_named w s = one _ _ (check_alike 1 i s.first)
    where
      shared_named : (l : List (ℕ × ℕ)) → Named i j (answer_of l) (answer_of l)
      shared_named [] = apart NoSharedPosition
      shared_named (e ∷ l) = overlap

      both_named : (p q : Extent) (y z : Layout) (t : Bool)
          → Named i j (on_reference w y z s p.start q.start t).answer (on_reference w y z s p.start q.start t).answer
      both_named p q y z true = apart NoReferenceLength
      both_named p q y z false = shared_named (shared y z p.start q.start s.first s.second)

      judged_named : (y z : Layout) (k k' : Judged) → Judges k k' → Named i j (on_judged w y z s k).answer (on_judged w y z s k').answer
      judged_named y z k k' (placeless r) = apart r
      judged_named y z k k' (both p q) = both_named p q y z (lengthless p q)
      judged_named y z k k' (of_first r q h) = at_first r q h.number h.operation h.was h.is
      judged_named y z k k' (of_second r q h) = at_second r q h.number h.operation h.was h.is

      rest : Layout → Layout → ℕ → ℕ → Outcome
      rest y z m n = on_judged w y z s (judged_of y z s.first s.second m n)

      two : (y : Layout) (k k' : Result Layout Refusal) → Alike Ok Err 2 j k k' → Named i j (on_good k s (λ z. rest y z 1 2)).answer (on_good k' s (λ z. rest y z i j)).answer
      two y k k' (fine z) = judged_named y z _ _ (judged_judge y z s.first s.second)
      two y k k' (faulty r q h) = at_second r q h.number h.operation h.was h.is

      one : (k k' : Result Layout Refusal) → Alike Ok Err 1 i k k'
          → Named i j (on_good k s (λ y. on_good (check_of s.second 2) s (λ z. rest y z 1 2))).answer
          (on_good k' s (λ y. on_good (check_of s.second j) s (λ z. rest y z i j))).answer
      one k k' (fine y) = two y _ _ (check_alike 2 j s.second)
      one k k' (faulty r q h) = at_first r q h.number h.operation h.was h.is

-- ---- records i and j of the group s
module _ (w : Strategies) (s : List ℕ) (i j : ℕ) where
  -- they are judged as by the pair call, a refusal named by the index for the place
  pub named : Named i j (pair_at w s i j).answer (judged_at w s i j)
  named = records_named i j w (both_at s i j)

  -- where the group refuses them, so does the pair call
  pub judged_called : (q : Refusal) → judged_at w s i j ≡ Answers.Refused q → (r : Refusal) × ((pair_at w s i j).answer ≡ Answers.Refused r)
  judged_called q e = go _ _ named e
    where
      go : (a b : Answer) → Named i j a b → b ≡ Answers.Refused q → (r : Refusal) × (a ≡ Answers.Refused r)
      go a b (apart x) f = let z : ◌≡◌ {A = ℕ} 0 1 = cc in absurd (omega arith)
      go a b overlap f = let z : ◌≡◌ {A = ℕ} 0 1 = cc in absurd (omega arith)
      go a b (at_first r p n o x y) f = (r, refl)
      go a b (at_second r p n o x y) f = (r, refl)

  -- where the pair call refuses them, so does the group
  pub called_judged : (r : Refusal) → (pair_at w s i j).answer ≡ Answers.Refused r → (q : Refusal) × (judged_at w s i j ≡ Answers.Refused q)
  called_judged r e = go _ _ named e
    where
      go : (a b : Answer) → Named i j a b → a ≡ Answers.Refused r → (q : Refusal) × (b ≡ Answers.Refused q)
      go a b (apart x) f = let z : ◌≡◌ {A = ℕ} 0 1 = cc in absurd (omega arith)
      go a b overlap f = let z : ◌≡◌ {A = ℕ} 0 1 = cc in absurd (omega arith)
      go a b (at_first p q n o x y) f = (q, refl)
      go a b (at_second p q n o x y) f = (q, refl)
