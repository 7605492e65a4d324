-- The shared positions of two records, and what the records and the counts become.
use Rattle.std.specs.Prelude.{ℕ, zero, suc, ◌+◌, ◌≤◌, List, [], ◌∷◌}
use Rattle.std.proofs.Math.Option.{Option, none, some}
use Rattle.fields.specs.declared.Layout.{Layout}
use Rattle.fields.specs.declared.RefPos.{RefPos}
use Rattle.cigar.specs.Operation.{ops_in, read_sum, ref_sum}
use Rattle.cigar.specs.Found.{base_on}
use Rattle.positions.specs.declared.Job.{Job}
use Rattle.positions.specs.Step.{State}
use Rattle.positions.specs.Treating.{steps}

-- the offset of a record's base that sits at a position, if there is one
abbrev pub base_in : Layout → List ℕ → RefPos → ℕ → Option ℕ
base_in y s start = base_on y.count (ops_in y s) start.0

abbrev pub pair_cons : Option ℕ → Option ℕ → List (ℕ × ℕ) → List (ℕ × ℕ)
pair_cons none j l = l
pair_cons (some i) none l = l
pair_cons (some i) (some j) l = (i, j) ∷ l

-- both offsets at each of the n positions from p on at which both have a base
unfoldable pub pairs : (ℕ → Option ℕ) → (ℕ → Option ℕ) → ℕ → ℕ → List (ℕ × ℕ)
pairs f g p zero = []
pairs f g p (suc n) = pair_cons (f p) (g p) (pairs f g (suc p) n)

-- the offsets of both bases at each shared position, in the order of the positions
unfoldable pub shared : Layout → Layout → RefPos → RefPos → List ℕ → List ℕ → List (ℕ × ℕ)
shared y z p q a b = pairs (base_in y a p) (base_in z b q) p.0 (ref_sum (ops_in y a))

unfoldable pub merged : Job → RefPos → RefPos → State → State
merged w p q s = steps w (shared w.first w.second p q s.first s.second) s

-- what the checks have shown of a record's operations
pub record Walked (y : Layout) (start : RefPos) (s : List ℕ) : Type 0 where
  pub reads : read_sum (ops_in y s) ≤ y.count
  pub refs : start.0 + ref_sum (ops_in y s) ≤ 4294967296
  pub small : y.count ≤ 4294967296
