-- The verdict that the code works out step by step is that of the pair call from step 3 on, with the indexes as places; and what is known of pairs that passed.
use Rattle.std.specs.Prelude.{Result, Ok, Err}
use Rattle.pair_judgement.specs.declared.Untreated.TheVariants as Untreateds
use Prim.Native.Nat.{ℕ}
use mathlib.Core.Path.{◌≡◌, refl, ap, ◌∙◌}
use mathlib.Core.List.{List, [], ◌∷◌}
use mathlib.Core.Bool.{Bool, true, false}
use mathlib.Core.Logic.{⊎_elim}
use native.Mathlib.Omega.{arith}
use Rattle.refusal.specs.declared.Refusal.{Refusal}
use Rattle.fields.specs.declared.Layout.{Layout}
use Rattle.fields.specs.Among.{Among}
use Rattle.fields.specs.Check.{check_of}
use Rattle.fields.specs.Layout.{layout_of}
use Rattle.fields.specs.Sound.{Sound}
use Rattle.fields.proofs.CheckLaws.{good_sound}
use Rattle.stats.specs.Counts.{zeroed}
use Rattle.strategy.specs.declared.Strategies.{Strategies}
use Rattle.positions.specs.Step.{State, state}
use Rattle.pair_merge.specs.Shared.{shared}
use Rattle.pair_judgement.specs.Judgement.{judged_of, Judged}
use Rattle.pair_judgement.specs.Ready.{Cleared}
use Rattle.pair_judgement.specs.Reason.{lengthless}
use Rattle.pair.specs.Pair.{answer_of, on_reference, on_judged, on_good, records_of}
use Rattle.group_frames.specs.Frame.{record_of}
use Rattle.group_verdicts.specs.Judged.{answered, verdict_at, on_verdict, judge_by}
use Rattle.group_verdicts.specs.Indexed.{on_sound, of_judged, indexed_of, indexed_at}

module _ (w : Strategies) (a b : List ℕ) (i j : ℕ) where
  abbrev s : State
  s = state a b zeroed

  shared_passes : (l : List (ℕ × ℕ)) → (Ok tt) ≡ answered (answer_of l)
  shared_passes [] = refl
  shared_passes (e ∷ l) = refl

  -- one pair
  pair_indexed : indexed_of a b i j ≡ answered (records_of w s i j).answer
  unfolding indexed_of records_of
  pair_indexed = first (check_of a i)
    where
      third : (y z : Layout) (k : Judged) → of_judged k ≡ answered (on_judged w y z s k).answer
      third y z (Err (Untreateds.Refused r)) = refl
      third y z (Err (Untreateds.Apart r)) = refl
      third y z (Ok (p, q)) = go (lengthless p q)
        where
          go : (t : Bool) → (Ok tt) ≡ answered (on_reference w y z s p.start q.start t).answer
          go true = refl
          go false = shared_passes (shared y z p.start q.start a b)

      second : (y : Layout) (k : Result Layout Refusal) → on_sound k (λ z. of_judged (judged_of y z a b i j)) ≡ answered (on_good k s (λ z. on_judged w y z s (judged_of y z a b i j))).answer
      second y (Ok z) = third y z (judged_of y z a b i j)
      second y (Err r) = refl

      first : (k : Result Layout Refusal) → on_sound k (λ y. on_sound (check_of b j) (λ z. of_judged (judged_of y z a b i j)))
          ≡ answered (on_good k s (λ y. on_good (check_of b j) s (λ z. on_judged w y z s (judged_of y z a b i j)))).answer
      first (Ok y) = second y (check_of b j)
      first (Err r) = refl

-- so for the pairs of a group
pub all_indexed : (w : Strategies) (s : List ℕ) (l : List (ℕ × ℕ)) → judge_by (indexed_at s) l ≡ judge_by (verdict_at w s) l
unfolding judge_by
all_indexed w s [] = refl
all_indexed w s (e ∷ l) =
    ap (λ (v : Result (Unit {0}) Refusal). on_verdict v (judge_by (indexed_at s) l)) (pair_indexed w (record_of s e.0) (record_of s e.1) e.0 e.1)
    ∙ ap (on_verdict (verdict_at w s e.0 e.1)) (all_indexed w s l)

-- ---- pairs that passed
-- two records that passed are sound, and were not refused
pub passed_cleared : (a b : List ℕ) (i j : ℕ) → indexed_of a b i j ≡ Ok tt → Cleared a b
unfolding indexed_of
passed_cleared a b i j e = first (check_of a i) refl e
  where
    third : (k : Judged) → of_judged k ≡ Ok tt → (r : Refusal) → k ≡ Err (Untreateds.Refused r) → ⊥
    third k f r g = let z : ◌≡◌ {A = ℕ} 0 1 = cc (ap of_judged g) in omega arith

    second : Sound a (layout_of a) → (k : Result Layout Refusal) → check_of b j ≡ k → on_sound k (λ z. of_judged (judged_of (layout_of a) z a b i j)) ≡ Ok tt → Cleared a b
    second h (Ok z) g f =
        let l = good_sound b j z g in
        record {
          first = h;
          second = rw l.layout at l;
          place₁ = i;
          place₂ = j;
          passed = third (judged_of (layout_of a) (layout_of b) a b i j) (rw l.layout at f);
        }
    second h (Err r) g f = let z : ◌≡◌ {A = ℕ} 0 1 = cc in absurd (omega arith)

    first : (k : Result Layout Refusal) → check_of a i ≡ k → on_sound k (λ y. on_sound (check_of b j) (λ z. of_judged (judged_of y z a b i j))) ≡ Ok tt → Cleared a b
    first (Ok y) g f =
        let h = good_sound a i y g in
        second (rw h.layout at h) (check_of b j) refl (rw h.layout at f)
    first (Err r) g f = let z : ◌≡◌ {A = ℕ} 0 1 = cc in absurd (omega arith)

-- of a list that passed, its first pair and the rest did
pub first_passed : (v : ℕ → ℕ → Result (Unit {0}) Refusal) (e : ℕ × ℕ) (l : List (ℕ × ℕ)) → judge_by v (e ∷ l) ≡ Ok tt → (v e.0 e.1 ≡ Ok tt) × (judge_by v l ≡ Ok tt)
unfolding judge_by
first_passed v e l h = go (v e.0 e.1) refl h
  where
    go : (k : Result (Unit {0}) Refusal) → v e.0 e.1 ≡ k → on_verdict k (judge_by v l) ≡ Ok tt → (v e.0 e.1 ≡ Ok tt) × (judge_by v l ≡ Ok tt)
    go (Ok done) f g = (f, g)
    go (Err r) f g = let z : ◌≡◌ {A = ℕ} 0 1 = cc in absurd (omega arith)

-- and so did each of its pairs
pub all_passed : (v : ℕ → ℕ → Result (Unit {0}) Refusal) (l : List (ℕ × ℕ)) → judge_by v l ≡ Ok tt → (i j : ℕ) → Among l i j → v i j ≡ Ok tt
unfolding Among
all_passed v [] h i j a = absurd a
all_passed v (e ∷ l) h i j a =
    let k = first_passed v e l h in
    ⊎_elim (λ (z : (e.0 ≡ i) × (e.1 ≡ j)). (rw (z.0, z.1) at k.0)) (λ (z : Among l i j). all_passed v l k.1 i j z) a
