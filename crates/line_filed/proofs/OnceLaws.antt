-- What the program writes, and what it leaves in its two rooms, is fixed by what it reads. Assumes nothing.
use Prim.Native.Nat.{ℕ, ◌≤◌}
use mathlib.Core.Path.{◌≡◌, sym, ap, ap₂, ◌∙◌}
use mathlib.Core.List.{List, ◌++◌}
use native.Mathlib.Omega.{arith}
use lib.ListN.{length, take, drop, take-append-drop}
use lib.Seq.{length-take-le}
use Rattle.line_filed.specs.FiledLine.{filed_line_of}
use Rattle.line_filed.specs.Told.{Told}

-- where a text of a list ends that is long enough
ends : (k : ℕ) (x t : List ℕ) → k ≤ length x → take k x ≡ t → k ≡ length t
ends k x t h e = sym (length-take-le k x h) ∙ ap length e

module _ (s filed out : List ℕ) where
  -- the sizes, by the texts alone
  line_size : (x o : List ℕ) (line group : ℕ) → length o ≡ 256 → Told s filed x out o line group → line ≡ length (filed_line_of s).line
  line_size x o line group w p = let h = p.room in ends line o (filed_line_of s).line (omega arith) p.said

  group_size : (x o : List ℕ) (line group : ℕ) → length x ≡ 65536 → Told s filed x out o line group → group ≡ length (filed_line_of s).group
  group_size x o line group w p = let h = p.inside in ends group x (filed_line_of s).group (omega arith) p.given

  -- and then every byte
  out_bytes : (x o : List ℕ) (line group : ℕ) → Told s filed x out o line group → o ≡ (filed_line_of s).line ++ drop line out
  out_bytes x o line group p = sym (take-append-drop line o) ∙ ap₂ (λ (a b : List ℕ). a ++ b) p.said p.rest

  filed_bytes : (x o : List ℕ) (line group : ℕ) → Told s filed x out o line group → x ≡ (filed_line_of s).group ++ drop group filed
  filed_bytes x o line group p = sym (take-append-drop group x) ∙ ap₂ (λ (a b : List ℕ). a ++ b) p.given p.behind

  -- two outcomes that fit are one
  pub one_outcome : (x y o q : List ℕ) (l₁ l₂ g₁ g₂ : ℕ) → length x ≡ 65536 → length y ≡ 65536 → length o ≡ 256 → length q ≡ 256
      → Told s filed x out o l₁ g₁ → Told s filed y out q l₂ g₂ → (l₁ ≡ l₂) × (g₁ ≡ g₂) × (x ≡ y) × (o ≡ q)
  one_outcome x y o q l₁ l₂ g₁ g₂ hx hy ho hq p r =
      let l : l₁ ≡ l₂ = line_size x o l₁ g₁ ho p ∙ sym (line_size y q l₂ g₂ hq r) in
      let g : g₁ ≡ g₂ = group_size x o l₁ g₁ hx p ∙ sym (group_size y q l₂ g₂ hy r) in (
        l,
        g,
        filed_bytes x o l₁ g₁ p ∙ ap (λ (k : ℕ). (filed_line_of s).group ++ drop k filed) g ∙ sym (filed_bytes y q l₂ g₂ r),
        out_bytes x o l₁ g₁ p ∙ ap (λ (k : ℕ). (filed_line_of s).line ++ drop k out) l ∙ sym (out_bytes y q l₂ g₂ r),
      )
