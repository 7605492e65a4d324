-- A merge into lent statistics: its answer in the paper's numbers, exactly when each is given, and what it leaves.
use Rattle.std.specs.Prelude.{Ok, Err}
use mathlib.Core.Path.{◌≡◌, refl}
use mathlib.Core.Bool.{Bool, true, false, cond}
use mathlib.Core.List.{[], ◌∷◌}
use mathlib.Core.Logic.{◌↔◌}
use Rattle.refusal.specs.declared.Refusal.TheVariants.{Sum}
use Rattle.stats.specs.declared.CorrectionStats.{CorrectionStats}
use Rattle.stats.specs.Counts.{plus, above}
use Rattle.lent.specs.Lent.{MergeCalled, merge_numbers, on_merged, merge_of}

-- the merge of h into g; a sum is above 2 ^ 64 - 1 where `above` says so (`stats` has which: `above_some`)
module _ (g h : CorrectionStats) where
  -- what the test of the sums comes to
  abbrev summed : Bool → MergeCalled
  summed t = on_merged g (cond t (Err Sum) (Ok (plus g h)))

  -- 13 at place 0: a sum is above 2 ^ 64 - 1
  pub merge_refused : (merge_numbers (merge_of g h).answer ≡ 13 ∷ 0 ∷ []) ↔ (above 18446744073709551615 (plus g h) ≡ true)
  merge_refused = go (above 18446744073709551615 (plus g h))
    where
      go : (t : Bool) → (merge_numbers (summed t).answer ≡ 13 ∷ 0 ∷ []) ↔ (t ≡ true)
      go true = (λ e. refl, λ e. refl)
      go false = (λ e. cc, λ e. cc)

  -- and then the counts stay
  pub merge_keeps : above 18446744073709551615 (plus g h) ≡ true → (merge_of g h).stats ≡ g
  merge_keeps = go (above 18446744073709551615 (plus g h))
    where
      go : (t : Bool) → t ≡ true → (summed t).stats ≡ g
      go true e = refl
      go false e = cc

  -- 0: none is
  pub merge_added : (merge_numbers (merge_of g h).answer ≡ 0 ∷ []) ↔ (above 18446744073709551615 (plus g h) ≡ false)
  merge_added = go (above 18446744073709551615 (plus g h))
    where
      go : (t : Bool) → (merge_numbers (summed t).answer ≡ 0 ∷ []) ↔ (t ≡ false)
      go true = (λ e. cc, λ e. cc)
      go false = (λ e. refl, λ e. refl)

  -- and then they are the sums
  pub merge_sums : above 18446744073709551615 (plus g h) ≡ false → (merge_of g h).stats ≡ plus g h
  merge_sums = go (above 18446744073709551615 (plus g h))
    where
      go : (t : Bool) → t ≡ false → (summed t).stats ≡ plus g h
      go true e = cc
      go false e = refl
