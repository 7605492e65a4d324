-- Records of one group lie apart, in order; what is put in the place of one leaves the others. What the table says of each.
use Prim.Native.Nat.{ℕ, zero, suc, ◌+◌, ◌-◌, ◌<◌, ◌≤◌}
use mathlib.Core.Path.{◌≡◌, sym, ◌∙◌, ap, ap₂}
use mathlib.Core.List.{List}
use mathlib.Core.Logic.{◌⊎◌, ⊎_elim}
use native.Mathlib.Numerals.{add-one}
use native.Mathlib.Omega.{arith}
use borrow.Rule.Slice.PartMut.{same_len_mid, take_put, drop_put}
use lib.ListN.{length, get_or}
use lib.Seq.{get_or-take, get_or-drop}
use Rattle.fields.proofs.Arith.{lt_or_le}
use Rattle.fields.specs.Layout.{layout_of}
use Rattle.fields.specs.Sound.{Sound}
use Rattle.group_frames.specs.Part.{part}
use Rattle.group_frames.specs.Frame.{begin_of, start_of, end_of, record_of, put_record}
use Rattle.group_frames.specs.Table.{FrameTable}
use Rattle.group_frames.proofs.PartLaws.{length_part, part_put, part_after, part_before}

-- ---- in order, and apart
pub begin_mono : (s : List ℕ) (i j : ℕ) → i ≤ j → begin_of s i ≤ begin_of s j
unfolding begin_of
begin_mono s i zero h = let e : i ≡ 0 = omega arith in omega (arith, ap (begin_of s) e)
begin_mono s i (suc j) h =
    ⊎_elim (λ (l : i < suc j). omega (arith, begin_mono s i j (omega arith)))
    (λ (g : suc j ≤ i). let e : i ≡ suc j = omega arith in omega (arith, ap (begin_of s) e))
    (lt_or_le i (suc j))

pub start_end : (s : List ℕ) (k : ℕ) → start_of s k ≤ end_of s k
unfolding start_of end_of begin_of
start_end s k = omega arith

pub records_apart : (s : List ℕ) (i k : ℕ) → i < k → end_of s i ≤ start_of s k
unfolding start_of end_of
records_apart s i k h = omega (arith, begin_mono s (suc i) k (omega arith))

pub end_in_lem : (s : List ℕ) (i n : ℕ) → i < n → end_of s i ≤ begin_of s n
unfolding end_of
end_in_lem s i n h = begin_mono s (suc i) n (omega arith)

-- ---- x in the place of record i of the group s₀
module _ (s₀ : List ℕ) (n : ℕ) (fit : begin_of s₀ n ≤ length s₀) (s x : List ℕ) (same : length s ≡ length s₀) (i : ℕ) (below : i < n) (size : length x ≡ end_of s₀ i - start_of s₀ i) where
  pub put_size : length (put_record s₀ s i x) ≡ length s₀
  put_size =
      same_len_mid (start_of s₀ i) (end_of s₀ i - start_of s₀ i) s x (size ∙ sym (length_part s (start_of s₀ i) (end_of s₀ i) (start_end s₀ i) (omega (arith, end_in_lem s₀ i n below)))) ∙ same

  pub put_here : part (put_record s₀ s i x) (start_of s₀ i) (end_of s₀ i) ≡ x
  put_here = part_put s x (start_of s₀ i) (end_of s₀ i) (start_end s₀ i) (omega (arith, end_in_lem s₀ i n below)) size

  pub put_other : (j : ℕ) → (i ≡ j → ⊥) → part (put_record s₀ s i x) (start_of s₀ j) (end_of s₀ j) ≡ part s (start_of s₀ j) (end_of s₀ j)
  put_other j d =
      ⊎_elim
      (λ (l : i < j). part_after s x (start_of s₀ i) (end_of s₀ i) (start_end s₀ i) (omega (arith, end_in_lem s₀ i n below)) size (start_of s₀ j) (end_of s₀ j) (records_apart s₀ i j l))
      (λ (g : j ≤ i). ⊎_elim
      (λ (l : j < i). part_before s x (start_of s₀ i) (end_of s₀ i) (start_of s₀ j) (end_of s₀ j) (start_end s₀ i) (omega (arith, end_in_lem s₀ i n below)) size (start_end s₀ j) (records_apart s₀ j i l))
      (λ (g' : i ≤ j). absurd (d (omega arith))) (lt_or_le j i))
      (lt_or_le i j)

  pub put_out : (p : ℕ) → (p < start_of s₀ i) ⊎ (end_of s₀ i ≤ p) → get_or (put_record s₀ s i x) p 0 ≡ get_or s p 0
  put_out p h =
      let a = start_of s₀ i in
      let e = end_of s₀ i in
      let r : e ≤ length s = omega (arith, end_in_lem s₀ i n below) in
      let o : a ≤ e = start_end s₀ i in
      ⊎_elim
      (λ (l : p < a). sym (get_or-take a (put_record s₀ s i x) p 0 l) ∙ ap (λ (z : List ℕ). get_or z p 0) (take_put a (e - a) s x (omega arith)) ∙ get_or-take a s p 0 l)
      (λ (g : e ≤ p). let m : e + (p - e) ≡ p = omega arith in
      ap (λ (z : ℕ). get_or (put_record s₀ s i x) z 0) (sym m) ∙ sym (get_or-drop e (put_record s₀ s i x) (p - e) 0) ∙ ap (λ (z : List ℕ). get_or z (p - e) 0) (drop_put a e s x o r size) ∙ get_or-drop e s (p - e) 0 ∙ ap (λ (z : ℕ). get_or s z 0) m)
      h

-- ---- record i, by the table
module _ (s begins : List ℕ) (n : ℕ) (t : FrameTable s begins n) (i : ℕ) (h : i < n) where
  pub at_start : get_or begins i 0 + 4 ≡ start_of s i
  unfolding start_of
  at_start = omega (arith, t.places i (omega arith))

  pub at_end : get_or begins (i + 1) 0 ≡ end_of s i
  unfolding end_of
  at_end = t.places (i + 1) (omega arith) ∙ ap (begin_of s) (add-one i)

  pub at_part : part s (get_or begins i 0 + 4) (get_or begins (i + 1) 0) ≡ record_of s i
  at_part = ap₂ (part s) at_start at_end

  pub at_order : get_or begins i 0 + 4 ≤ get_or begins (i + 1) 0
  at_order = omega (arith, at_start, at_end, start_end s i)

  pub at_in : get_or begins (i + 1) 0 ≤ length s
  at_in = omega (arith, at_end, end_in_lem s i n h, t.fit)

  pub at_sound : Sound (part s (get_or begins i 0 + 4) (get_or begins (i + 1) 0)) (layout_of (part s (get_or begins i 0 + 4) (get_or begins (i + 1) 0)))
  at_sound = rw at_part (t.sound i h)
