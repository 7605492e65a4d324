-- What the program writes, and what it leaves in its two rooms, is fixed by what it reads. Assumes nothing.
use Prim.Native.Nat.{ℕ, ◌+◌, ◌≤◌}
use mathlib.Core.Path.{◌≡◌, sym, ap, ap₂, ◌∙◌}
use mathlib.Core.List.{List, ◌++◌}
use native.Mathlib.Omega.{arith}
use lib.ListN.{length, take, drop, take-append-drop, length-drop}
use lib.Seq.{drop-drop, length-take-le}
use Rattle.line_overlap.specs.Overlap.{overlap_of}
use Rattle.line_overlap.specs.Told.{Told}

-- where a text of a list ends that is long enough
ends : (k : ℕ) (x t : List ℕ) → k ≤ length x → take k x ≡ t → k ≡ length t
ends k x t h e = sym (length-take-le k x h) ∙ ap length e

module _ (s input out : List ℕ) (within : length s ≤ length input) (width : length out ≡ 256) where
  -- the sizes, by the texts alone
  line_size : (x o : List ℕ) (line group : ℕ) → length o ≡ 256 → Told s input x out o line group → line ≡ length (overlap_of s).line
  line_size x o line group w p = let h = p.room in ends line o (overlap_of s).line (omega arith) p.said

  group_size : (x o : List ℕ) (line group : ℕ) → length x ≡ length input → Told s input x out o line group → group ≡ length (overlap_of s).group
  group_size x o line group w p =
      let h = p.inside in
      ends group (drop 2 x) (overlap_of s).group (omega (arith, length-drop 2 x)) p.given

  -- and then every byte
  out_bytes : (x o : List ℕ) (line group : ℕ) → Told s input x out o line group → o ≡ (overlap_of s).line ++ drop line out
  out_bytes x o line group p = sym (take-append-drop line o) ∙ ap₂ (λ (a b : List ℕ). a ++ b) p.said p.rest

  input_bytes : (x o : List ℕ) (line group : ℕ) → Told s input x out o line group → x ≡ take 2 input ++ ((overlap_of s).group ++ drop (2 + group) input)
  input_bytes x o line group p =
      let z : drop 2 x ≡ (overlap_of s).group ++ drop (2 + group) input =
      sym (take-append-drop group (drop 2 x)) ∙ ap₂ (λ (a b : List ℕ). a ++ b) p.given (drop-drop group 2 x ∙ p.behind)
      in
      sym (take-append-drop 2 x) ∙ ap₂ (λ (a b : List ℕ). a ++ b) p.digits z

  -- two outcomes that fit are one
  pub one_outcome : (x y o q : List ℕ) (l₁ l₂ g₁ g₂ : ℕ) → length x ≡ length input → length y ≡ length input → length o ≡ 256 → length q ≡ 256
      → Told s input x out o l₁ g₁ → Told s input y out q l₂ g₂ → (l₁ ≡ l₂) × (g₁ ≡ g₂) × (x ≡ y) × (o ≡ q)
  one_outcome x y o q l₁ l₂ g₁ g₂ hx hy ho hq p r =
      let l : l₁ ≡ l₂ = line_size x o l₁ g₁ ho p ∙ sym (line_size y q l₂ g₂ hq r) in
      let g : g₁ ≡ g₂ = group_size x o l₁ g₁ hx p ∙ sym (group_size y q l₂ g₂ hy r) in (
        l,
        g,
        input_bytes x o l₁ g₁ p ∙ ap (λ (k : ℕ). take 2 input ++ ((overlap_of s).group ++ drop (2 + k) input)) g ∙ sym (input_bytes y q l₂ g₂ r),
        out_bytes x o l₁ g₁ p ∙ ap (λ (k : ℕ). (overlap_of s).line ++ drop k out) l ∙ sym (out_bytes y q l₂ g₂ r),
      )
