-- A part put right behind a front that is done makes a longer one, and leaves what is behind it.
use Prim.Native.Nat.{ℕ, ◌+◌, ◌-◌, ◌≤◌}
use mathlib.Core.Path.{◌≡◌, sym, ◌∙◌, ap, ap₂}
use mathlib.Core.List.{List, ◌++◌, append_assoc}
use native.Mathlib.Omega.{arith}
use borrow.Rule.Slice.PartMut.{same_len_mid, drop_put}
use lib.ListN.{length, take, drop, length-append}
use lib.Seq.{take_at, take-add, drop-drop, length-take-le}
use Rattle.group_frames.specs.Part.{part, splice}
use Rattle.group_frames.proofs.PartLaws.{length_part}
use Rattle.filed_writing.specs.Written.{Front}

-- the bytes behind a place stay behind a later one
pub behind_later : (out out₀ : List ℕ) (a e : ℕ) → a ≤ e → drop a out ≡ drop a out₀ → drop e out ≡ drop e out₀
behind_later out out₀ a e h q =
    let m : a + (e - a) ≡ e = omega arith in
    ap (λ (k : ℕ). drop k out) (sym m) ∙ sym (drop-drop (e - a) a out) ∙ ap (drop (e - a)) q ∙ drop-drop (e - a) a out₀ ∙ ap (λ (k : ℕ). drop k out₀) m

-- x put into out from a to e
module _ (out x : List ℕ) (a e : ℕ) (order : a ≤ e) (inside : e ≤ length out) (size : length x ≡ e - a) where
  pub size_next : length (splice out a e x) ≡ length out
  size_next = same_len_mid a (e - a) out x (size ∙ sym (length_part out a e order inside))

  pub behind_next : (out₀ : List ℕ) → drop a out ≡ drop a out₀ → drop e (splice out a e x) ≡ drop e out₀
  behind_next out₀ q = drop_put a e out x order inside size ∙ behind_later out out₀ a e order q

  pub front_next : (u : List ℕ) → Front u out a → x ≡ part u a e → Front u (splice out a e x) e
  front_next u f g =
      let m : a + (e - a) ≡ e = omega arith in
      let n : length (take a out ++ x) ≡ e = omega (arith, length-append (take a out) x, length-take-le a out (omega arith), size) in
      ap (take e) (sym (append_assoc (take a out) x (drop (e - a) (drop a out)))) ∙ take_at (take a out ++ x) (drop (e - a) (drop a out)) e n
      ∙ ap₂ (λ (p q : List ℕ). p ++ q) f g ∙ sym (take-add a (e - a) u) ∙ ap (λ (k : ℕ). take k u) m
