-- One turn of the loop that finds where the frames end. Assumes nothing.
use Rattle.std.specs.Prelude.{Result, Ok, Err}
use Rattle.refusal.specs.declared.Refusal.TheVariants.{TrailerMissing, TooManyRecords}
use Prim.Native.Nat.{ℕ, suc, ◌+◌, ◌-◌, ◌<◌, ◌≤◌}
use mathlib.Core.Path.{◌≡◌, refl, sym, ◌∙◌, ap}
use mathlib.Core.Bool.{Bool, true, false, cond}
use mathlib.Core.List.{List}
use native.Mathlib.Numerals.{add-one}
use native.Mathlib.Omega.{arith}
use borrow.Author.Tests.{ltb-true, ltb-false}
use lib.Dec.{ltb}
use lib.ListN.{length, set}
use Rattle.refusal.specs.declared.Refusal.{Refusal}
use Rattle.group_frames.specs.Frame.{begin_of, frame_of}
use Rattle.group_frames.specs.Table.{FrameTable}
use Rattle.group_frames.proofs.FrameLaws.{placed_start, placed_next}
use Rattle.filed_ending.specs.Ending.{zero_at, ends_at, on_frame, ending_from, ending_of}
use Rattle.filed_ending.specs.Found.{FramesEnd}
use Rattle.filed_ending.proofs.EndLaws.{end_missing, end_zero, end_many, end_frame, ends_of, before_table}

-- the loop has passed k frames, and p is where the next begins
pub record Going (s begins : List ℕ) (k p : ℕ) : Type 0 where
  pub here : p ≡ begin_of s k
  pub left : ending_from s (256 - k) k ≡ ending_of s
  pub placed : FrameTable s begins k

pub going_start : (s begins : List ℕ) → 257 ≤ length begins → Going s (set begins 0 0) 0 0
unfolding begin_of
going_start s begins h = record { here = refl; left = refl; placed = placed_start s begins h }

-- ---- what the test of a place says
test_left : (s : List ℕ) (p : ℕ) (z : Bool) → Ok z ≡ ends_at s p → (p < length s) × (zero_at s p ≡ z)
test_left s p z h = go (ltb p (length s)) refl h
  where
    go : (t : Bool) → ltb p (length s) ≡ t → Ok z ≡ cond t (Ok (zero_at s p)) (Err TrailerMissing) → (p < length s) × (zero_at s p ≡ z)
    go true e d = (ltb-true p (length s) e, cc)
    go false e d = let z : ◌≡◌ {A = ℕ} 0 1 = cc in absurd (omega arith)

test_none : (s : List ℕ) (p : ℕ) (r : Refusal) → Err r ≡ ends_at s p → (length s ≤ p) × (r ≡ TrailerMissing)
test_none s p r h = go (ltb p (length s)) refl h
  where
    go : (t : Bool) → ltb p (length s) ≡ t → Err r ≡ cond t (Ok (zero_at s p)) (Err TrailerMissing) → (length s ≤ p) × (r ≡ TrailerMissing)
    go true e d = let z : ◌≡◌ {A = ℕ} 0 1 = cc in absurd (omega arith)
    go false e d = (ltb-false p (length s) e, cc)

module _ (s begins : List ℕ) (k p : ℕ) (g : Going s begins k p) (t : Result Bool Refusal) (test : t ≡ ends_at s p) where
  pub said_missing : (r : Refusal) → t ≡ Err r → Err r ≡ ending_of s
  said_missing r e =
      let d = test_none s p r (sym e ∙ test) in
      ap Err d.1 ∙ sym (end_missing s k (256 - k) (omega (arith, g.here, d.0))) ∙ g.left

  module _ (z : Bool) (is : t ≡ Ok z) where
    here : (p < length s) × (zero_at s p ≡ z)
    here = test_left s p z (sym is ∙ test)

    pub said_end : z ≡ true → (Ok k ≡ ending_of s) × FramesEnd s begins k
    said_end h =
        let e : ending_of s ≡ Ok k = sym g.left ∙ end_zero s k (256 - k) (rw g.here at (here.1 ∙ h)) in
        (sym e, before_table s k (ends_of s k e) begins g.placed)

    module _ (none : z ≡ false) where
      more_here : begin_of s k < length s
      more_here = omega (arith, g.here, here.0)

      size_here : zero_at s (begin_of s k) ≡ false
      size_here = rw g.here at (here.1 ∙ none)

      pub said_many : k ≡ 256 → Err TooManyRecords ≡ ending_of s
      said_many full =
          let z : 256 - k ≡ 0 = omega arith in
          sym (end_many s k more_here size_here) ∙ ap (λ (w : ℕ). ending_from s w k) (sym z) ∙ g.left

      module _ (room : k < 256) (f : Result ℕ Refusal) (e : f ≡ frame_of s p k) where
        turn : on_frame f (ending_from s (256 - (k + 1)) (suc k)) ≡ ending_of s
        turn =
            let m = 256 - (k + 1) in
            let u : suc m ≡ 256 - k = omega arith in
            ap (λ (z : Result ℕ Refusal). on_frame z (ending_from s m (suc k))) (e ∙ ap (λ (z : ℕ). frame_of s z k) g.here)
            ∙ sym (end_frame s k more_here size_here m) ∙ ap (λ (z : ℕ). ending_from s z k) u ∙ g.left

        pub said_refused : (r : Refusal) → f ≡ Err r → Err r ≡ ending_of s
        said_refused r h = ap (λ (z : Result ℕ Refusal). on_frame z (ending_from s (256 - (k + 1)) (suc k))) (sym h) ∙ turn

        pub going_next : (q : ℕ) → f ≡ Ok q → Going s (set begins (k + 1) q) (k + 1) q
        going_next q h =
            let d = placed_next s begins k g.placed room q (sym (ap (λ (z : ℕ). frame_of s z k) g.here) ∙ sym e ∙ h) in
            record {
              here = d.0;
              left = ap (ending_from s (256 - (k + 1))) (add-one k) ∙ ap (λ (z : Result ℕ Refusal). on_frame z (ending_from s (256 - (k + 1)) (suc k))) (sym h) ∙ turn;
              placed = d.1;
            }
