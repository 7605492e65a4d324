-- Laws of the record check: what a record that passes is known to hold, and what the check looks at. Assumes nothing.
use Rattle.std.specs.Prelude.{Result, Ok, Err}
use mathlib.Core.Bool.{Bool, true, false, cond}
use mathlib.Core.List.{List}
use mathlib.Core.Path.{◌≡◌, refl, ap, sym, ◌∙◌}
use Prim.Native.Nat.{ℕ, ◌+◌, ◌≤◌}
use native.Mathlib.Omega.{arith}
use lib.Dec.{ltb}
use lib.ListN.{length, take}
use lib.Seq.{get_or-take}
use borrow.Author.Tests.{ltb-false, le-ltb}
use Rattle.refusal.specs.declared.Refusal.{Refusal}
use Rattle.fields.specs.Number.{unsigned}
use Rattle.fields.specs.Layout.{Header, header, bases_at, tags_at, layout_of}
use Rattle.fields.specs.Check.{check_of}
use Rattle.fields.specs.Sound.{Sound}
use Rattle.fields.specs.declared.Layout.{Layout}
use Rattle.fields.proofs.NumberLaws.{le_same}

-- a test that would have refused did not hold
passed : (t : Bool) (r : Refusal) (x : Result Layout Refusal) (y : Layout) → cond t (Err r) x ≡ Ok y → (t ≡ false) × (x ≡ Ok y)
passed true r x y e = let z : ◌≡◌ {A = ℕ} 0 1 = cc in absurd (omega arith)
passed false r x y e = (refl, e)

-- the four tests of a record that passes
record Passes (s : List ℕ) (y : Layout) : Type 0 where
  short : ltb (length s) 32 ≡ false
  long : ltb 65536 (length s) ≡ false
  operations : ltb (length s) (bases_at s) ≡ false
  qualities : ltb (length s) (tags_at s) ≡ false
  layout : y ≡ layout_of s

passes : (s : List ℕ) (p : ℕ) (y : Layout) → check_of s p ≡ Ok y → Passes s y
unfolding check_of
passes s p y e =
    let a = passed _ _ _ _ e in
    let b = passed _ _ _ _ a.1 in
    let o = passed _ _ _ _ b.1 in
    let q = passed _ _ _ _ o.1 in
    let g : Ok (layout_of s) ≡ Ok y = q.1 in
    record { short = a.0; long = b.0; operations = o.0; qualities = q.0; layout = cc }

-- what a record that passes is known to hold
pub good_sound : (s : List ℕ) (p : ℕ) (y : Layout) → check_of s p ≡ Ok y → Sound s y
good_sound s p y e =
    let t = passes s p y e in
    let n : tags_at s ≤ length s = ltb-false _ _ t.qualities in
    record {
      layout = t.layout;
      lies = rw t.layout (record { operations = omega arith; bases = omega arith; qualities = omega arith });
      fixed = ltb-false _ _ t.short;
      allowed = ltb-false _ _ t.long;
      after = rw t.layout (omega arith);
    }

-- and a record that holds it passes, at any place
pub sound_good : (s : List ℕ) (y : Layout) → Sound s y → (p : ℕ) → check_of s p ≡ Ok y
unfolding check_of
sound_good s y h p =
    let n : tags_at s ≤ length s = (rw h.layout at h.lies).qualities in
    simp (le-ltb _ _ h.fixed, le-ltb _ _ h.allowed, le-ltb (length s) (bases_at s) (omega arith), le-ltb _ _ n, h.layout)

-- whether a record passes does not depend on its place
pub good_any_place : (s : List ℕ) (p : ℕ) (y : Layout) → check_of s p ≡ Ok y → (q : ℕ) → check_of s q ≡ Ok y
unfolding check_of
good_any_place s p y e q =
    let t = passes s p y e in
    simp (t.short, t.long, t.operations, t.qualities, t.layout)

-- a front of a list holds the numbers that lie in it
pub le_take : (w n : ℕ) (s : List ℕ) (at : ℕ) → at + w ≤ n → unsigned w (take n s) at ≡ unsigned w s at
le_take w n s at h = le_same w (take n s) s at (λ k l u. get_or-take n s k 0 (omega arith))

header_take : (s : List ℕ) → header (take 32 s) ≡ header s
header_take s =
    let t : (w at : ℕ) → at + w ≤ 32 → unsigned w (take 32 s) at ≡ unsigned w s at = λ w at h. le_take w 32 s at h in
    rw (t 4 0 (omega arith), t 4 4 (omega arith), t 1 8 (omega arith), t 1 9 (omega arith), t 2 10 (omega arith), t 2 12 (omega arith), t 2 14 (omega arith), t 4 16 (omega arith), t 4 20 (omega arith), t 4 24 (omega arith), t 4 28 (omega arith))

-- the header is read from the first 32 bytes alone
pub same_header : (a b : List ℕ) → take 32 a ≡ take 32 b → header a ≡ header b
same_header a b e = sym (header_take a) ∙ ap header e ∙ header_take b

-- and the check looks at the header and the length alone
pub same_check : (a b : List ℕ) → take 32 a ≡ take 32 b → length a ≡ length b → (p : ℕ) → check_of a p ≡ check_of b p
unfolding check_of
same_check a b e l p =
    let h = same_header a b e in
    simp (l, ap (λ (x : Header). x.name_length) h, ap (λ (x : Header). x.operation_count) h, ap (λ (x : Header). x.l_seq) h)
