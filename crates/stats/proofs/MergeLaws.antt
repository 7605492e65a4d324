-- A merge's answer in the paper's numbers, exactly when each is given.
use Rattle.std.specs.Prelude.{Result, Ok, Err}
use Rattle.refusal.specs.declared.Refusal.{Refusal}
use Prim.Native.Nat.{ℕ, ◌<◌}
use mathlib.Core.Path.{◌≡◌, refl}
use mathlib.Core.Bool.{Bool, true, false, cond, ◌||◌}
use mathlib.Core.List.{[], ◌∷◌}
use mathlib.Core.Logic.{◌⊎◌, inl, inr, ⊎_elim, ◌↔◌}
use lib.Dec.{ltb}
use borrow.Author.Tests.{ltb-true, lt-ltb}
use Rattle.refusal.specs.declared.Refusal.TheVariants.{Sum}
use Rattle.stats.specs.declared.CorrectionStats.{CorrectionStats}
use Rattle.stats.specs.Counts.{plus, above, merged_of, merged_numbers}

-- ---- some count is above n: which
-- a test of two holds exactly where one of them does
or_join : {P Q : Type 0} (a b : Bool) → (a ≡ true) ↔ P → (b ≡ true) ↔ Q → (a || b ≡ true) ↔ (P ⊎ Q)
or_join true b f g = (λ e. inl (f.0 refl), λ x. refl)
or_join false b f g = (λ e. inr (g.0 e), λ x. ⊎_elim (λ p. let e : false ≡ true = f.1 p in cc) g.1 x)

-- the test of one count
tests : (n a : ℕ) → (ltb n a ≡ true) ↔ (n < a)
tests n a = (ltb-true n a, lt-ltb n a)

-- it is one of the four
pub above_some : (n : ℕ) (g : CorrectionStats)
    → (above n g ≡ true) ↔ ((((n < g.overlapping) ⊎ (n < g.agreeing)) ⊎ (n < g.disagreeing)) ⊎ (n < g.corrected))
above_some n g = or_join _ _ (or_join _ _ (or_join _ _ (tests n g.overlapping) (tests n g.agreeing)) (tests n g.disagreeing)) (tests n g.corrected)

-- ---- the merge of g and h
module _ (g h : CorrectionStats) where
  -- what the test of the sums comes to
  abbrev summed : Bool → Result CorrectionStats Refusal
  summed t = cond t (Err Sum) (Ok (plus g h))

  -- 13 at place 0: a sum is above 2 ^ 64 - 1
  pub merge_refused : (merged_numbers (merged_of g h) ≡ 13 ∷ 0 ∷ []) ↔ (above 18446744073709551615 (plus g h) ≡ true)
  merge_refused = go (above 18446744073709551615 (plus g h))
    where
      go : (t : Bool) → (merged_numbers (summed t) ≡ 13 ∷ 0 ∷ []) ↔ (t ≡ true)
      go true = (λ e. refl, λ e. refl)
      go false = (λ e. cc, λ e. cc)

  -- 0 and the sums: none is
  pub merge_total : (merged_numbers (merged_of g h) ≡ merged_numbers (Ok (plus g h))) ↔ (above 18446744073709551615 (plus g h) ≡ false)
  merge_total = go (above 18446744073709551615 (plus g h))
    where
      go : (t : Bool) → (merged_numbers (summed t) ≡ merged_numbers (Ok (plus g h))) ↔ (t ≡ false)
      go true = (λ e. cc, λ e. cc)
      go false = (λ e. refl, λ e. refl)
