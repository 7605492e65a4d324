-- Within the records of a pair, a byte that holds neither a base nor a quality stays.
use Prim.Native.Nat.{ℕ}
use mathlib.Core.Path.{◌≡◌, refl, ◌∙◌, ap}
use mathlib.Core.List.{List}
use native.Mathlib.Omega.{arith}
use lib.ListN.{get_or}
use Rattle.fields.specs.Layout.{layout_of}
use Rattle.stats.specs.declared.CorrectionStats.{CorrectionStats}
use Rattle.strategy.specs.declared.Strategies.{Strategies}
use Rattle.positions.specs.Step.{State}
use Rattle.pair_merge.specs.Promise.{Outside}
use Rattle.pair.specs.declared.Answer.{Answer}
use Rattle.pair.specs.declared.Answer.TheVariants as Answers
use Rattle.pair.specs.Pair.{Outcome, outcome, pair_of}
use Rattle.pair.proofs.PromiseLaws.{refused_keeps, apart_keeps, promise, overlap_aligned}
use Rattle.group_frames.specs.Part.{part}
use Rattle.group_frames.specs.Frame.{start_of, end_of, record_of}
use Rattle.group_mates.specs.Promise.{Mates}
use Rattle.group_verdicts.specs.Judged.{both_at}
use Rattle.group.specs.Promise.{Accepted}

-- ---- one pair
module _ (w : Strategies) (s : State) where
  named : (a : Answer) → (pair_of w s).answer ≡ a → pair_of w s ≡ outcome a (pair_of w s).after
  named a e = ap (λ (x : Answer). outcome x (pair_of w s).after) e

  pub call_outside₁ : (k : ℕ) → Outside (layout_of s.first) k → get_or (pair_of w s).after.first k 0 ≡ get_or s.first k 0
  call_outside₁ k o = go (pair_of w s).answer refl
    where
      go : (a : Answer) → (pair_of w s).answer ≡ a → get_or (pair_of w s).after.first k 0 ≡ get_or s.first k 0
      go (Answers.Refused r) e = ap (λ (x : State). get_or x.first k 0) (refused_keeps w s (pair_of w s).after r (named (Answers.Refused r) e))
      go (Answers.NoOverlap x) e = ap (λ (u : State). get_or u.first k 0) (apart_keeps w s (pair_of w s).after x (named (Answers.NoOverlap x) e))
      go Answers.Overlap e =
          let al = overlap_aligned w s (pair_of w s).after (named Answers.Overlap e) in
          (promise w s (pair_of w s) refl (λ r f. let z : ◌≡◌ {A = ℕ} 0 1 = cc in omega arith) al).corrected.outside₁ k o

  pub call_outside₂ : (k : ℕ) → Outside (layout_of s.second) k → get_or (pair_of w s).after.second k 0 ≡ get_or s.second k 0
  call_outside₂ k o = go (pair_of w s).answer refl
    where
      go : (a : Answer) → (pair_of w s).answer ≡ a → get_or (pair_of w s).after.second k 0 ≡ get_or s.second k 0
      go (Answers.Refused r) e = ap (λ (x : State). get_or x.second k 0) (refused_keeps w s (pair_of w s).after r (named (Answers.Refused r) e))
      go (Answers.NoOverlap x) e = ap (λ (u : State). get_or u.second k 0) (apart_keeps w s (pair_of w s).after x (named (Answers.NoOverlap x) e))
      go Answers.Overlap e =
          let al = overlap_aligned w s (pair_of w s).after (named Answers.Overlap e) in
          (promise w s (pair_of w s) refl (λ r f. let z : ◌≡◌ {A = ℕ} 0 1 = cc in omega arith) al).corrected.outside₂ k o

-- ---- every pair of an accepted group; byte k is counted from the record's start
module _ (w : Strategies) (s : List ℕ) (g : CorrectionStats) (n p o : ℕ) (u : List ℕ) (h : CorrectionStats) (a : Accepted w s g n p o u h) (i j : ℕ) (m : Mates s n i j) where
  pub first_outside : (k : ℕ) → Outside (layout_of (record_of s i)) k → get_or (part u (start_of s i) (end_of s i)) k 0 ≡ get_or (record_of s i) k 0
  first_outside k q = ap (λ (x : List ℕ). get_or x k 0) (a.first i j m ∙ ap (λ (x : Outcome). x.after.first) (a.called i j)) ∙ call_outside₁ w (both_at s i j) k q

  pub second_outside : (k : ℕ) → Outside (layout_of (record_of s j)) k → get_or (part u (start_of s j) (end_of s j)) k 0 ≡ get_or (record_of s j) k 0
  second_outside k q = ap (λ (x : List ℕ). get_or x k 0) (a.second i j m ∙ ap (λ (x : Outcome). x.after.second) (a.called i j)) ∙ call_outside₂ w (both_at s i j) k q
