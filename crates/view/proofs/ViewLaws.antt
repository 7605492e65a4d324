-- Laws of the read view: what a record that can be viewed is known to hold. Assumes nothing.
use Rattle.std.specs.Prelude.{Result, Ok, Err}
use mathlib.Core.Bool.{Bool, true, false, cond}
use mathlib.Core.List.{List, []}
use mathlib.Core.Path.{◌≡◌, refl}
use Prim.Native.Nat.{ℕ, ◌+◌, ◌<◌, ◌≤◌}
use native.Mathlib.Omega.{arith}
use lib.Dec.{ltb}
use lib.ListN.{length}
use borrow.Author.Tests.{ltb-false, lt-ltb, le-ltb}
use Rattle.refusal.specs.declared.Refusal.{Refusal}
use Rattle.refusal.specs.declared.Refusal.TheVariants.{RecordShort, RecordLong, NameAndOperations, BasesAndQualities}
use Rattle.refusal.specs.Table.{number_of}
use Rattle.fields.specs.Layout.{header, name_in, bases_at, tags_at, layout_of}
use Rattle.fields.specs.Check.{check_of}
use Rattle.fields.specs.declared.Layout.{Layout}
use Rattle.view.specs.View.{viewed_by, refused_of, name_of}

-- the view by what the check finds
pub good_well : (s : List ℕ) (y : Layout) → check_of s 0 ≡ Ok y → (Ok tt) ≡ refused_of s
unfolding refused_of
good_well s y e = rw e

pub bad_refused : (s : List ℕ) (r : Refusal) → check_of s 0 ≡ Err r → number_of r < 4 → Err r ≡ refused_of s
unfolding refused_of
bad_refused s r e h = rw (e, lt-ltb (number_of r) 4 h)

pub bad_well : (s : List ℕ) (r : Refusal) → check_of s 0 ≡ Err r → 4 ≤ number_of r → (Ok tt) ≡ refused_of s
unfolding refused_of
bad_well s r e h = rw (e, le-ltb (number_of r) 4 h)

-- none of the first three tests of the check held
third_passed : (p₁ p₂ p₃ : Bool) (x : Result Layout Refusal) → viewed_by (cond p₁ (Err (RecordShort 0)) (cond p₂ (Err (RecordLong 0)) (cond p₃ (Err (NameAndOperations 0)) x))) ≡ Ok tt
    → p₃ ≡ false
third_passed true p₂ p₃ x e = let z : ◌≡◌ {A = ℕ} 0 1 = cc in absurd (omega arith)
third_passed false true p₃ x e = let z : ◌≡◌ {A = ℕ} 0 1 = cc in absurd (omega arith)
third_passed false false true x e = let z : ◌≡◌ {A = ℕ} 0 1 = cc in absurd (omega arith)
third_passed false false false x e = refl

-- its name lies within it
pub well_lies : (s : List ℕ) → refused_of s ≡ Ok tt → 32 + (header s).name_length ≤ length s
unfolding refused_of check_of
well_lies s e = let h = ltb-false (length s) (bases_at s) (third_passed (ltb (length s) 32) (ltb 65536 (length s)) (ltb (length s) (bases_at s)) (cond (ltb (length s) (tags_at s)) (Err (BasesAndQualities 0)) (Ok (layout_of s))) e) in omega arith

-- a record that can be viewed has its name, and a refused one none
pub well_named : (s : List ℕ) → refused_of s ≡ Ok tt → name_in s ≡ name_of s
unfolding name_of
well_named s e = rw e

pub refused_unnamed : (s : List ℕ) (r : Refusal) → refused_of s ≡ Err r → [] ≡ name_of s
unfolding name_of
refused_unnamed s r e = rw e
