-- The whole call, by its steps.
use Rattle.std.specs.Prelude.{Result, Ok, Err}
use Prim.Native.Nat.{ℕ}
use mathlib.Core.Path.{◌≡◌, refl, sym, ap, ap₂, subst, ◌∙◌}
use mathlib.Core.List.{List, [], ◌∷◌}
use mathlib.Core.Bool.{Bool, true, false, cond}
use native.Mathlib.Omega.{arith}
use lib.ListN.{length}
use Rattle.refusal.specs.declared.Refusal.{Refusal}
use Rattle.refusal.specs.declared.Refusal.TheVariants.{Count, Cap}
use Rattle.fields.specs.declared.Layout.{Layout}
use Rattle.fields.specs.Check.{check_of}
use Rattle.fields.proofs.CheckLaws.{good_sound}
use Rattle.stats.specs.Counts.{full}
use Rattle.strategy.specs.declared.Strategies.{Strategies}
use Rattle.strategy.specs.Cap.{cap_outside}
use Rattle.cigar.specs.declared.Extent.{Extent}
use Rattle.positions.specs.Step.{State, job}
use Rattle.pair_merge.specs.Shared.{shared}
use Rattle.pair.specs.declared.Answer.TheVariants as Answers
use Rattle.pair_judgement.specs.declared.Reason.{Reason}
use Rattle.pair_judgement.specs.declared.Untreated.{Untreated}
use Rattle.pair_judgement.specs.declared.Untreated.TheVariants as Untreateds
use Rattle.pair_judgement.specs.declared.Placed.{Placed}
use Rattle.pair_judgement.specs.declared.Reason.TheVariants.{NoReferenceLength, NoSharedPosition}
use Rattle.pair_judgement.specs.Judgement.{judged_of, Judged}
use Rattle.pair_judgement.specs.Reason.{lengthless, unshared_of}
use Rattle.pair_judgement.specs.Ready.{Ready, TreatedTo}
use Rattle.pair_judgement.proofs.TreatLaws.{Known, both_known, none_reached, nothing_shared}
use Rattle.pair.specs.Pair.{Outcome, outcome, answer_of, on_reference, on_judged, on_good, untreated_answer, Both, placed, on_checked, placed_of, records_of, capped_of, pair_of}

-- ---- the answer by the number of shared positions
pub none_met : (l : List (ℕ × ℕ)) (n : ℕ) → n ≡ length l → n ≡ 0 → Answers.NoOverlap NoSharedPosition ≡ answer_of l
none_met [] n e f = refl
none_met (x ∷ l) n e f = absurd (omega arith)

pub some_met : (l : List (ℕ × ℕ)) (n : ℕ) → n ≡ length l → (n ≡ 0 → ⊥) → Answers.Overlap ≡ answer_of l
some_met [] n e f = absurd (f e)
some_met (x ∷ l) n e f = refl

-- ---- two records on one reference, by the number n of shared positions that were treated
module _ (w : Strategies) (s : State) (y z : Layout) (p q : Extent) (u : State) (n : ℕ) (t : TreatedTo (job w y z) p.start q.start s u n) where
  abbrev met : List (ℕ × ℕ)
  met = shared y z p.start q.start s.first s.second

  nothing : (l : List (ℕ × ℕ)) → n ≡ length l → n ≡ 0 → l ≡ []
  nothing [] e f = refl
  nothing (x ∷ l) e f = absurd (omega arith)

  -- none is shared
  pub both_none : (r : Reason) → r ≡ unshared_of p q → n ≡ 0 → outcome (Answers.NoOverlap r) u ≡ on_reference w y z s p.start q.start (lengthless p q)
  both_none r e f = go (lengthless p q) e
    where
      go : (c : Bool) → r ≡ cond c NoReferenceLength NoSharedPosition → outcome (Answers.NoOverlap r) u ≡ on_reference w y z s p.start q.start c
      go true g =
          ap₂ outcome (ap Answers.NoOverlap g) (t.after ∙ sym (nothing_shared (job w y z) p.start q.start s (nothing met t.counted f)))
      go false g = ap₂ outcome (ap Answers.NoOverlap g ∙ none_met met n t.counted f) t.after

  -- some is: then both have a length on the reference
  pub both_some : Ready y z p q s.first s.second → (n ≡ 0 → ⊥) → outcome Answers.Overlap u ≡ on_reference w y z s p.start q.start (lengthless p q)
  both_some k f = go (lengthless p q) refl
    where
      known : Known y z s.first s.second p q
      known = both_known y z s.first s.second k.place₁ k.place₂ p q k.both

      go : (c : Bool) → lengthless p q ≡ c → outcome Answers.Overlap u ≡ on_reference w y z s p.start q.start c
      go true g =
          let e = none_reached y z p.start q.start s.first s.second p q known.span₁ known.span₂ g in
          absurd (f (t.counted ∙ ap length e))
      go false g = ap₂ outcome (some_met met n t.counted f) t.after

-- ---- the order of judgement
module _ (w : Strategies) (s : State) where
  -- ---- the records: both are sound and judged
  pub records_judged : (y z : Layout) (j : Judged) → check_of s.first 1 ≡ Ok y → check_of s.second 2 ≡ Ok z → judged_of y z s.first s.second 1 2 ≡ j
      → on_judged w y z s j ≡ records_of w s 1 2
  unfolding records_of
  records_judged y z j good₁ good₂ e = rw (good₁, good₂, e)

  -- ---- the cap
  pub call_cap : cap_outside w.cap ≡ true → outcome (Answers.Refused Cap) s ≡ pair_of w s
  unfolding pair_of
  call_cap e = rw e

  pub call_capped : cap_outside w.cap ≡ false → capped_of w s ≡ pair_of w s
  unfolding pair_of
  call_capped e = rw e

  -- ---- the statistics
  pub call_full : full s.stats ≡ true → outcome (Answers.Refused Count) s ≡ capped_of w s
  call_full e = rw e

  module _ (room : full s.stats ≡ false) where
    pub call_records : records_of w s 1 2 ≡ capped_of w s
    call_records = rw room

-- ---- the records checked and judged in one
module _ (a b : List ℕ) where
  pub placed_first : (r : Refusal) → check_of a 1 ≡ Err r → Err (Untreateds.Refused r) ≡ placed_of a b
  unfolding placed_of
  placed_first r e = rw e

  module _ (y : Layout) (good₁ : check_of a 1 ≡ Ok y) where
    pub placed_second : (r : Refusal) → check_of b 2 ≡ Err r → Err (Untreateds.Refused r) ≡ placed_of a b
    unfolding placed_of
    placed_second r e = rw (good₁, e)

    pub placed_judged : (z : Layout) (j : Judged) → check_of b 2 ≡ Ok z → judged_of y z a b 1 2 ≡ j → placed y z j ≡ placed_of a b
    unfolding placed_of
    placed_judged z j good₂ e = rw (good₁, good₂, e)

  abbrev Found : Placed × Placed → Type 0
  Found v = Ready v.0.layout v.1.layout v.0.extent v.1.extent a b

  -- what the treatment asks
  pub placed_ready : (v : Placed × Placed) → placed_of a b ≡ Ok v → Found v
  unfolding placed_of
  placed_ready v e = one (check_of a 1) refl e
    where
      both : (y z : Layout) → check_of a 1 ≡ Ok y → check_of b 2 ≡ Ok z → (j : Judged) → judged_of y z a b 1 2 ≡ j → placed y z j ≡ Ok v → Found v
      both y z f g (Err u) h k = let n : ◌≡◌ {A = ℕ} 0 1 = cc in absurd (omega arith)
      both y z f g (Ok (p, q)) h k =
          let i : (record { layout = y; extent = p }, record { layout = z; extent = q }) ≡ v = cc in
          subst Found i (record { first = good_sound a 1 y f; second = good_sound b 2 z g; place₁ = 1; place₂ = 2; both = h })

      two : (y : Layout) → check_of a 1 ≡ Ok y → (k : Result Layout Refusal) → check_of b 2 ≡ k → on_checked k (λ z. placed y z (judged_of y z a b 1 2)) ≡ Ok v → Found v
      two y f (Ok z) g h = both y z f g (judged_of y z a b 1 2) refl h
      two y f (Err r) g h = let n : ◌≡◌ {A = ℕ} 0 1 = cc in absurd (omega arith)

      one : (k : Result Layout Refusal) → check_of a 1 ≡ k → on_checked k (λ y. on_checked (check_of b 2) (λ z. placed y z (judged_of y z a b 1 2))) ≡ Ok v → Found v
      one (Ok y) f h = two y f (check_of b 2) refl h
      one (Err r) f h = let n : ◌≡◌ {A = ℕ} 0 1 = cc in absurd (omega arith)

-- the outcome by what they were found to be
abbrev pub on_both : Strategies → State → Both → Outcome
on_both w s (Err u) = outcome (untreated_answer u) s
on_both w s (Ok (a, b)) = on_judged w a.layout b.layout s (Ok (a.extent, b.extent))

pub placed_records : (w : Strategies) (s : State) → on_both w s (placed_of s.first s.second) ≡ records_of w s 1 2
unfolding placed_of records_of
placed_records w s = one (check_of s.first 1)
  where
    both : (y z : Layout) (j : Judged) → on_both w s (placed y z j) ≡ on_judged w y z s j
    both y z (Err (Untreateds.Refused r)) = refl
    both y z (Err (Untreateds.Apart r)) = refl
    both y z (Ok (p, q)) = refl

    two : (y : Layout) (k : Result Layout Refusal) → on_both w s (on_checked k (λ z. placed y z (judged_of y z s.first s.second 1 2))) ≡ on_good k s (λ z. on_judged w y z s (judged_of y z s.first s.second 1 2))
    two y (Ok z) = both y z (judged_of y z s.first s.second 1 2)
    two y (Err r) = refl

    one : (k : Result Layout Refusal) → on_both w s (on_checked k (λ y. on_checked (check_of s.second 2) (λ z. placed y z (judged_of y z s.first s.second 1 2))))
        ≡ on_good k s (λ y. on_good (check_of s.second 2) s (λ z. on_judged w y z s (judged_of y z s.first s.second 1 2)))
    one (Ok y) = two y (check_of s.second 2)
    one (Err r) = refl

-- ---- the capped call, by what the records were found to be
module _ (w : Strategies) (s : State) (room : full s.stats ≡ false) where
  pub call_untreated : (u : Untreated) → placed_of s.first s.second ≡ Err u → outcome (untreated_answer u) s ≡ capped_of w s
  call_untreated u e = (rw e at (placed_records w s)) ∙ call_records w s room

  module _ (v : Placed × Placed) (is : placed_of s.first s.second ≡ Ok v) where
    call_on : on_reference w v.0.layout v.1.layout s v.0.extent.start v.1.extent.start (lengthless v.0.extent v.1.extent) ≡ capped_of w s
    call_on = (rw is at (placed_records w s)) ∙ call_records w s room

    module _ (u : State) (n : ℕ) (t : TreatedTo (job w v.0.layout v.1.layout) v.0.extent.start v.1.extent.start s u n) where
      pub call_none : (r : Reason) → r ≡ unshared_of v.0.extent v.1.extent → n ≡ 0 → outcome (Answers.NoOverlap r) u ≡ capped_of w s
      call_none r e f = both_none w s v.0.layout v.1.layout v.0.extent v.1.extent u n t r e f ∙ call_on

      pub call_some : (n ≡ 0 → ⊥) → outcome Answers.Overlap u ≡ capped_of w s
      call_some f = both_some w s v.0.layout v.1.layout v.0.extent v.1.extent u n t (placed_ready s.first s.second v is) f ∙ call_on
