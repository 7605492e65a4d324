-- A part that is put in a list is read there, and a part apart from it is as it was.
use mathlib.Core.Path.{◌≡◌, sym, ◌∙◌, ap}
use mathlib.Core.List.{List}
use Prim.Native.Nat.{ℕ, ◌+◌, ◌-◌, ◌≤◌}
use native.Mathlib.Omega.{arith}
use lib.ListN.{length, take, drop, take-append-drop, length-drop, length-take}
use lib.Seq.{take_at, drop_at, length-take-le, drop-drop, drop-append-le, take-append-le}
use borrow.Rule.Slice.PartMut.{take_put, drop_put, same_len_mid}
use Rattle.group_frames.specs.Part.{part, splice}

pub length_part : (xs : List ℕ) (b g : ℕ) → b ≤ g → g ≤ length xs → length (part xs b g) ≡ g - b
length_part xs b g h k = simp (length-take, length-drop) (omega arith)

module _ (xs ys : List ℕ) (a e : ℕ) (h : a ≤ e) (k : e ≤ length xs) (l : length ys ≡ e - a) where
  pub part_put : part (splice xs a e ys) a e ≡ ys
  part_put =
      let t : length (take a xs) ≡ a = length-take-le a xs (omega arith) in
      ap (take (e - a)) (drop_at (take a xs) _ a t) ∙ take_at ys _ (e - a) l

  pub part_after : (b g : ℕ) → e ≤ b → part (splice xs a e ys) b g ≡ part xs b g
  part_after b g p =
      let m : e + (b - e) ≡ b = omega arith in
      let q : drop b (splice xs a e ys) ≡ drop b xs =
      ap (λ (i : ℕ). drop i (splice xs a e ys)) (sym m) ∙ sym (drop-drop (b - e) e (splice xs a e ys)) ∙ ap (drop (b - e)) (drop_put a e xs ys h k l) ∙ drop-drop (b - e) e xs ∙ ap (λ (i : ℕ). drop i xs) m in
      ap (take (g - b)) q

-- a part below a is a part of the first a elements
part_of_front : (xs : List ℕ) (a b g : ℕ) → b ≤ g → g ≤ a → a ≤ length xs → part xs b g ≡ part (take a xs) b g
part_of_front xs a b g p q r =
    let t : length (take a xs) ≡ a = length-take-le a xs r in
    let s : b ≤ length (take a xs) = omega arith in
    let u : g - b ≤ length (drop b (take a xs)) = simp length-drop (omega arith) in
    ap (λ (z : List ℕ). part z b g) (sym (take-append-drop a xs)) ∙ ap (take (g - b)) (drop-append-le b (take a xs) (drop a xs) s) ∙ take-append-le (g - b) (drop b (take a xs)) (drop a xs) u

pub part_before : (xs ys : List ℕ) (a e b g : ℕ) → a ≤ e → e ≤ length xs → length ys ≡ e - a → b ≤ g → g ≤ a → part (splice xs a e ys) b g ≡ part xs b g
part_before xs ys a e b g h k l p q =
    let n : length (splice xs a e ys) ≡ length xs = same_len_mid a (e - a) xs ys (l ∙ sym (length_part xs a e h k)) in
    part_of_front (splice xs a e ys) a b g p q (omega arith) ∙ ap (λ (z : List ℕ). part z b g) (take_put a (e - a) xs ys (omega arith)) ∙ sym (part_of_front xs a b g p q (omega arith))
