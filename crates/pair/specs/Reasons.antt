-- Why there is no overlap: each reason is given exactly when its own words hold, and those of no reason before it. `s` before, `o` the outcome.
use Rattle.std.specs.Prelude.{ℕ, ◌≡◌, List, true, false, ◌↔◌, ◌⊎◌, negsuc}
use Rattle.fields.specs.Flag.{has_bit, unmapped}
use Rattle.fields.specs.Layout.{header, layout_of}
use Rattle.cigar.specs.Operation.{ref_sum, ops_in}
use Rattle.positions.specs.Step.{State}
use Rattle.pair_judgement.specs.declared.Reason.{Reason}
use Rattle.pair_judgement.specs.declared.Reason.TheVariants.{Unmapped, ReferencesDiffer, NegativePosition, NoReferenceLength, NoSharedPosition}
use Rattle.pair.specs.declared.Answer.TheVariants as Answers
use Rattle.pair.specs.Pair.{Outcome}
use Rattle.pair.specs.Promise.{Aligned, Overlaps}

-- 1: a record is unmapped
abbrev pub IsUnmapped : List ℕ → Type 0
IsUnmapped a = has_bit (header a).flags unmapped ≡ true

-- not 1
pub record Mapped (a b : List ℕ) : Type 0 where
  pub first : has_bit (header a).flags unmapped ≡ false
  pub second : has_bit (header b).flags unmapped ≡ false

-- 2: the reference ids differ
abbrev pub Differ : List ℕ → List ℕ → Type 0
Differ a b = (header a).ref_id ≡ (header b).ref_id → ⊥

-- 3: a position is negative
abbrev pub Negative : List ℕ → Type 0
Negative a = (n : ℕ) × ((header a).pos ≡ negsuc n)

-- 4: the M D N = X lengths total 0
abbrev pub Lengthless : List ℕ → Type 0
Lengthless a = ref_sum (ops_in (layout_of a) a) ≡ 0

-- the answer is "no overlap", for this reason
abbrev pub Gives : Outcome → Reason → Type 0
Gives o r = o.answer ≡ Answers.NoOverlap r

-- `Aligned`: neither 1, 2 nor 3
pub record Reasoned (s : State) (o : Outcome) : Type 0 where
  pub unmapped : Gives o Unmapped ↔ (IsUnmapped s.first ⊎ IsUnmapped s.second)
  pub references : Gives o ReferencesDiffer ↔ (Mapped s.first s.second × Differ s.first s.second)
  pub negative : Gives o NegativePosition
      ↔ (Mapped s.first s.second × ((header s.first).ref_id ≡ (header s.second).ref_id) × (Negative s.first ⊎ Negative s.second))
  pub lengthless : Gives o NoReferenceLength ↔ (Aligned s.first s.second × (Lengthless s.first ⊎ Lengthless s.second))
  pub unshared : Gives o NoSharedPosition
      ↔ ((al : Aligned s.first s.second) × (Lengthless s.first ⊎ Lengthless s.second → ⊥) × (Overlaps s al.pos₁ al.pos₂ → ⊥))
