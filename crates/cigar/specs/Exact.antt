-- When refusals 5 and 7 are given, in the document's words.
use Rattle.refusal.specs.declared.Refusal.{Refusal}
use Rattle.std.specs.Prelude.{ℕ, ◌%◌, ◌≤◌, ◌<◌, ◌≡◌, List, ◌∷◌, ◌++◌, ◌↔◌, ◌⊎◌, length, Result, Ok, Err}
use Rattle.refusal.specs.declared.Refusal.TheVariants.{OperationCode, ReadTotal}
use Rattle.cigar.specs.Operation.{read_sum, ref_sum}

-- 5: operation code above 8
abbrev pub BadCode : ℕ → Type 0
BadCode op = 8 < op % 16

-- every operation of the list has a code of 0 to 8
abbrev pub Faultless : List ℕ → Type 0
Faultless ops = (before : List ℕ) (op : ℕ) (after : List ℕ) → ops ≡ before ++ op ∷ after → op % 16 ≤ 8

-- front to back: the operation with index i, from 0, has a bad code, and the i before it have none
pub record FirstFault (ops : List ℕ) (i : ℕ) : Type 0 where
  pub before : List ℕ
  pub op : ℕ
  pub after : List ℕ
  pub split : ops ≡ before ++ op ∷ after
  pub index : i ≡ length before
  pub passed : Faultless before
  pub faulty : BadCode op

-- 7: bases and operations are there, and the lengths on the read don't total l_seq
abbrev pub BadTotal : ℕ → List ℕ → Type 0
BadTotal count ops = (0 < count) × (0 < length ops) × (read_sum ops ≡ count → ⊥)

-- r answers the operations of a record of `count` bases: each answer is given exactly when its condition holds, and it is one of these three
pub record GivenExactly (count : ℕ) (ops : List ℕ) (place : ℕ) (r : Result ℕ Refusal) : Type 0 where
  pub code : (i : ℕ) → (r ≡ Err (OperationCode place i)) ↔ FirstFault ops i
  pub total : (r ≡ Err (ReadTotal place)) ↔ (Faultless ops × BadTotal count ops)
  pub uses : (n : ℕ) → (r ≡ Ok n) ↔ (Faultless ops × (BadTotal count ops → ⊥) × (n ≡ ref_sum ops))
  pub decided : ((i : ℕ) × (r ≡ Err (OperationCode place i))) ⊎ ((r ≡ Err (ReadTotal place)) ⊎ (r ≡ Ok (ref_sum ops)))
