-- The answer by its steps, as the code meets them; and that it is the pair call's.
use Rattle.std.specs.Prelude.{Result, Ok, Err}
use Rattle.pair_judgement.specs.declared.Untreated.TheVariants as Untreateds
use Prim.Native.Nat.{ℕ}
use mathlib.Core.Path.{◌≡◌, refl, sym, ap, ◌∙◌}
use mathlib.Core.List.{List, [], ◌∷◌}
use mathlib.Core.Bool.{Bool, true, false, cond}
use native.Mathlib.Omega.{arith}
use lib.Dec.{ltb}
use lib.ListN.{length}
use borrow.Author.Tests.{ltb-true, ltb-false}
use Rattle.refusal.specs.declared.Refusal.{Refusal}
use Rattle.fields.specs.declared.Layout.{Layout}
use Rattle.fields.specs.Check.{check_of}
use Rattle.cigar.specs.declared.Extent.{Extent}
use Rattle.stats.specs.Counts.{full}
use Rattle.strategy.specs.declared.Strategies.{Strategies}
use Rattle.strategy.specs.Cap.{cap_outside}
use Rattle.positions.specs.Step.{State}
use Rattle.pair_merge.specs.Shared.{shared}
use Rattle.pair_judgement.specs.declared.Reason.{Reason}
use Rattle.pair_judgement.specs.declared.Reason.TheVariants.{NoReferenceLength, NoSharedPosition}
use Rattle.pair_judgement.specs.Judgement.{judged_of, Judged}
use Rattle.pair_judgement.specs.Reason.{lengthless, unshared_of}
use Rattle.pair_judgement.specs.Ready.{Ready}
use Rattle.pair_judgement.proofs.TreatLaws.{Known, both_known, none_reached}
use Rattle.pair.specs.declared.Answer.{Answer}
use Rattle.pair.specs.declared.Answer.TheVariants as Answers
use Rattle.pair.specs.Pair.{answer_of, on_reference, on_judged, on_good, untreated_answer, Both, placed, on_checked, placed_of, records_of, pair_of}
use Rattle.pair_reason.specs.Reason.{on_both, on_sound, answer_on}

-- ---- two records on one reference, by whether they share a position
module _ (y z : Layout) (p q : Extent) (a b : List ℕ) (known : Ready y z p q a b) (t : Bool) (e : t ≡ ltb 0 (length (shared y z p.start q.start a b))) where
  abbrev met : List (ℕ × ℕ)
  met = shared y z p.start q.start a b

  -- they do: then both have a length on the reference
  pub some_shared : t ≡ true → Answers.Overlap ≡ on_both y z a b (Ok (p, q))
  some_shared f = go (lengthless p q) refl
    where
      k : Known y z a b p q
      k = both_known y z a b known.place₁ known.place₂ p q known.both

      some : (l : List (ℕ × ℕ)) → ltb 0 (length l) ≡ true → Answers.Overlap ≡ answer_of l
      some [] g = let n : ◌≡◌ {A = ℕ} 0 1 = cc in absurd (omega arith)
      some (x ∷ l) g = refl

      go : (c : Bool) → lengthless p q ≡ c → Answers.Overlap ≡ cond c (Answers.NoOverlap NoReferenceLength) (answer_of met)
      go true g =
          let none = none_reached y z p.start q.start a b p q k.span₁ k.span₂ g in
          absurd (omega (arith, ltb-true 0 (length met) (sym e ∙ f), ap length none))
      go false g = some met (sym e ∙ f)

  -- they don't
  pub none_shared : (r : Reason) → r ≡ unshared_of p q → t ≡ false → Answers.NoOverlap r ≡ on_both y z a b (Ok (p, q))
  none_shared r h f = go (lengthless p q) h
    where
      none : (l : List (ℕ × ℕ)) → ltb 0 (length l) ≡ false → Answers.NoOverlap NoSharedPosition ≡ answer_of l
      none [] g = refl
      none (x ∷ l) g = absurd (omega (arith, ltb-false 0 (length (x ∷ l)) g))

      go : (c : Bool) → r ≡ cond c NoReferenceLength NoSharedPosition → Answers.NoOverlap r ≡ cond c (Answers.NoOverlap NoReferenceLength) (answer_of met)
      go true g = ap Answers.NoOverlap g
      go false g = ap Answers.NoOverlap g ∙ none met (sym e ∙ f)

-- ---- by what the records were found to be
abbrev pub on_found : List ℕ → List ℕ → Both → Answer
on_found a b (Err u) = untreated_answer u
on_found a b (Ok (x, y)) = on_both x.layout y.layout a b (Ok (x.extent, y.extent))

pub found_answer : (a b : List ℕ) → on_found a b (placed_of a b) ≡ answer_on a b
unfolding placed_of answer_on
found_answer a b = one (check_of a 1)
  where
    both : (y z : Layout) (j : Judged) → on_found a b (placed y z j) ≡ on_both y z a b j
    both y z (Err (Untreateds.Refused r)) = refl
    both y z (Err (Untreateds.Apart r)) = refl
    both y z (Ok (p, q)) = refl

    two : (y : Layout) (k : Result Layout Refusal) → on_found a b (on_checked k (λ z. placed y z (judged_of y z a b 1 2))) ≡ on_sound k (λ z. on_both y z a b (judged_of y z a b 1 2))
    two y (Ok z) = both y z (judged_of y z a b 1 2)
    two y (Err r) = refl

    one : (k : Result Layout Refusal) → on_found a b (on_checked k (λ y. on_checked (check_of b 2) (λ z. placed y z (judged_of y z a b 1 2))))
        ≡ on_sound k (λ y. on_sound (check_of b 2) (λ z. on_both y z a b (judged_of y z a b 1 2)))
    one (Ok y) = two y (check_of b 2)
    one (Err r) = refl

-- ---- the pair call's answer, whatever its strategies and its counts
module _ (w : Strategies) (s : State) where
  abbrev judged : Layout → Layout → Judged
  judged y z = judged_of y z s.first s.second 1 2

  both_answers : (y z : Layout) (j : Judged) → on_both y z s.first s.second j ≡ (on_judged w y z s j).answer
  both_answers y z (Err (Untreateds.Refused r)) = refl
  both_answers y z (Err (Untreateds.Apart r)) = refl
  both_answers y z (Ok (p, q)) = go (lengthless p q)
    where
      go : (c : Bool) → cond c (Answers.NoOverlap NoReferenceLength) (answer_of (shared y z p.start q.start s.first s.second)) ≡ (on_reference w y z s p.start q.start c).answer
      go true = refl
      go false = refl

  records_answer : answer_on s.first s.second ≡ (records_of w s 1 2).answer
  unfolding answer_on records_of
  records_answer = one (check_of s.first 1)
    where
      two : (y : Layout) (k : Result Layout Refusal) → on_sound k (λ z. on_both y z s.first s.second (judged y z)) ≡ (on_good k s (λ z. on_judged w y z s (judged y z))).answer
      two y (Ok z) = both_answers y z (judged y z)
      two y (Err r) = refl

      one : (k : Result Layout Refusal) → on_sound k (λ y. on_sound (check_of s.second 2) (λ z. on_both y z s.first s.second (judged y z)))
          ≡ (on_good k s (λ y. on_good (check_of s.second 2) s (λ z. on_judged w y z s (judged y z)))).answer
      one (Ok y) = two y (check_of s.second 2)
      one (Err r) = refl

  pub pair_answers : cap_outside w.cap ≡ false → full s.stats ≡ false → answer_on s.first s.second ≡ (pair_of w s).answer
  unfolding pair_of
  pair_answers capped room = rw (capped, room) records_answer
