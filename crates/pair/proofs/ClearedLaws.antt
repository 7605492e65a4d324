-- Two records that were judged and not refused: what treating them gives is what the call gives.
use Rattle.std.specs.Prelude.{Result, Ok, Err}
use Rattle.pair_judgement.specs.declared.Untreated.TheVariants as Untreateds
use Prim.Native.Nat.{ℕ, zero, suc, ◌+◌}
use mathlib.Core.Path.{◌≡◌, refl, sym, ap, ap₂, ◌∙◌}
use mathlib.Core.List.{List, [], ◌∷◌}
use mathlib.Core.Bool.{Bool, true, false}
use lib.ListN.{length}
use Rattle.fields.specs.declared.Layout.{Layout}
use Rattle.fields.specs.Layout.{layout_of}
use Rattle.fields.proofs.CheckLaws.{sound_good}
use Rattle.strategy.specs.declared.Strategies.{Strategies}
use Rattle.positions.specs.Step.{State, job}
use Rattle.pair_merge.specs.Shared.{shared}
use Rattle.pair_judgement.specs.declared.Reason.{Reason}
use Rattle.pair_judgement.specs.declared.Reason.TheVariants.{NoReferenceLength, NoSharedPosition}
use Rattle.pair_judgement.specs.Judgement.{judged_of, Judged}
use Rattle.pair_judgement.specs.Reason.{lengthless}
use Rattle.pair_judgement.specs.Where.{where_of}
use Rattle.pair_judgement.specs.Ready.{TreatedTo, Cleared, TreatedAt}
use Rattle.pair_judgement.proofs.ClearedLaws.{starts, Covered, cleared_apart, cleared_on}
use Rattle.pair_judgement.proofs.TreatLaws.{none_reached, nothing_shared}
use Rattle.pair.specs.declared.Answer.{Answer}
use Rattle.pair.specs.declared.Answer.TheVariants as Answers
use Rattle.pair.specs.Pair.{outcome, answer_of, on_reference, on_judged, records_of}
use Rattle.pair.proofs.CallLaws.{records_judged}

-- the answer where so many positions are shared, with a reason for none
abbrev pub met_answer : Reason → ℕ → Answer
met_answer r zero = Answers.NoOverlap r
met_answer r (suc n) = Answers.Overlap

met_answer_lem : (l : List (ℕ × ℕ)) → met_answer NoSharedPosition (length l) ≡ answer_of l
met_answer_lem [] = refl
met_answer_lem (e ∷ l) = refl

module _ (w : Strategies) (s : State) (k : Cleared s.first s.second) where
  abbrev y : Layout
  y = layout_of s.first

  abbrev z : Layout
  z = layout_of s.second

  judged_as : (j : Judged) → judged_of y z s.first s.second 1 2 ≡ j → on_judged w y z s j ≡ records_of w s 1 2
  judged_as j e = records_judged w s y z j (sound_good _ _ k.first 1) (sound_good _ _ k.second 2) e

  -- n positions are met, and u is what is there after it
  pub cleared_called : (u : State) (n : ℕ) → TreatedAt (where_of s.first s.second) w s u n → (r : Reason) × (outcome (met_answer r n) u ≡ records_of w s 1 2)
  cleared_called u n t = go (where_of s.first s.second) refl t
    where
      on : (p q : ℕ) (c : Covered s.first s.second p q) (h : TreatedTo (job w y z) (record { 0 = p + 1 }) (record { 0 = q + 1 }) s u n) (b : Bool) → lengthless c.extent₁ c.extent₂ ≡ b
          → on_reference w y z s c.extent₁.start c.extent₂.start b ≡ records_of w s 1 2 → (x : Reason) × (outcome (met_answer x n) u ≡ records_of w s 1 2)
      on p q c h true b j =
          let l = none_reached y z (record { 0 = p + 1 }) (record { 0 = q + 1 }) s.first s.second c.extent₁ c.extent₂ c.span₁ c.span₂ b in
          let e : u ≡ s = h.after ∙ sym (nothing_shared (job w y z) (record { 0 = p + 1 }) (record { 0 = q + 1 }) s l) in
          (NoReferenceLength, ap₂ (λ (m : ℕ) (v : State). outcome (met_answer NoReferenceLength m) v) (h.counted ∙ ap length l) e ∙ j)
      on p q c h false b j = (
        NoSharedPosition,
        ap₂ outcome (ap (met_answer NoSharedPosition) h.counted ∙ met_answer_lem (shared y z (record { 0 = p + 1 }) (record { 0 = q + 1 }) s.first s.second)) h.after
            ∙ (rw (starts c.extent₁.start p c.span₁.first, starts c.extent₂.start q c.span₂.first) at j),
      )

      go : (x : Result (ℕ × ℕ) Reason) → where_of s.first s.second ≡ x → TreatedAt x w s u n → (r : Reason) × (outcome (met_answer r n) u ≡ records_of w s 1 2)
      go (Err r) e h = (r, ap₂ (λ (m : ℕ) (v : State). outcome (met_answer r m) v) h.1 h.0 ∙ judged_as (Err (Untreateds.Apart r)) (cleared_apart _ _ r e 1 2))
      go (Ok (p, q)) e h =
          let c = cleared_on s.first s.second p q k e in
          on p q c h (lengthless c.extent₁ c.extent₂) refl (judged_as (Ok (c.extent₁, c.extent₂)) (c.judged 1 2))
