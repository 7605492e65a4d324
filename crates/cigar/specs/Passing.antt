-- What a cursor stands for, and what its steps keep.
use Rattle.std.specs.Prelude.{ℕ, ◌+◌, ◌-◌, ◌≤◌, ◌≡◌, List, [], drop, length}
use Rattle.std.proofs.Math.Option.{Option}
use Rattle.cigar.specs.Operation.{read_sum, ref_sum, ops_of}
use Rattle.cigar.specs.declared.Cursor.{Cursor}
use Rattle.cigar.specs.Found.{run_at, off_at}

-- the operations after the run at hand; `cig` are the record's bytes up to the end of its operations
abbrev pub rest_ops : List ℕ → Cursor → List ℕ
rest_ops cig c = ops_of (drop c.at cig)

-- the base at position p, of the bases that the cursor has not passed
unfoldable pub cur_off : List ℕ → Cursor → ℕ → Option ℕ
cur_off cig c p = run_at c.left c.offset.0 c.position.0 p (off_at (rest_ops cig c) (c.offset.0 + c.left) (c.position.0 + c.left) p)

-- where the read and the reference end
abbrev pub read_end : List ℕ → Cursor → ℕ
read_end cig c = c.offset.0 + c.left + read_sum (rest_ops cig c)

abbrev pub ref_end : List ℕ → Cursor → ℕ
ref_end cig c = c.position.0 + c.left + ref_sum (rest_ops cig c)

abbrev pub cursor : ℕ → ℕ → ℕ → ℕ → Cursor
cursor at q r n = record { at = at; offset = record { 0 = q }; position = record { 0 = r }; left = n }

abbrev pub advanced : Cursor → ℕ → Cursor
advanced c d = cursor c.at (c.offset.0 + d) (c.position.0 + d) (c.left - d)

-- d stands for the same bases as c
pub record SameBases (cig : List ℕ) (c d : Cursor) : Type 0 where
  pub same : (p : ℕ) → cur_off cig d p ≡ cur_off cig c p
  pub reads : read_end cig d ≡ read_end cig c
  pub refs : ref_end cig d ≡ ref_end cig c
  pub up : c.position.0 ≤ d.position.0
  pub on : c.offset.0 ≤ d.offset.0

-- and has one at hand unless there is none left
pub record Settled (cig : List ℕ) (c d : Cursor) : Type 0 where
  pub kept : SameBases cig c d
  pub within : d.at ≤ length cig
  pub done : d.left ≡ 0 → rest_ops cig d ≡ []

-- a cursor that stands in `cig`, of a record of at most 2 ^ 32 bases and positions
pub record Stands (cig : List ℕ) (c : Cursor) : Type 0 where
  pub within : c.at ≤ length cig
  pub reads : read_end cig c ≤ 4294967296
  pub refs : ref_end cig c ≤ 4294967296
