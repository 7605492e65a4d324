-- Operations of an alignment: 4 bytes each, length * 16 + code. (SAM, section 4.2)
use Rattle.std.specs.Prelude.{ℕ, ◌+◌, ◌/◌, ◌%◌, List, [], ◌∷◌, get_or, take, drop}
use Rattle.fields.specs.declared.Layout.{Layout}
use Rattle.fields.specs.Number.{unsigned}

-- what an operation uses: read and reference, one of them, or neither; no operation has a code above 8
pub data Kind : Type 0 where
  Both : Kind
  Reference : Kind
  Read : Kind
  Neither : Kind
  Unknown : Kind

-- codes 0 to 8 are M I D N S H P = X
abbrev pub kind_of : ℕ → Kind
kind_of code = get_or (Both ∷ Read ∷ Reference ∷ Reference ∷ Read ∷ Neither ∷ Neither ∷ Both ∷ Both ∷ []) code Unknown

abbrev pub kind : ℕ → Kind
kind op = kind_of (op % 16)

abbrev pub len : ℕ → ℕ
len op = op / 16

-- how much of the read, and of the reference, an operation of a kind and length uses
abbrev pub read_of : Kind → ℕ → ℕ
read_of Both n = n
read_of Reference n = 0
read_of Read n = n
read_of Neither n = 0
read_of Unknown n = 0

abbrev pub ref_of : Kind → ℕ → ℕ
ref_of Both n = n
ref_of Reference n = n
ref_of Read n = 0
ref_of Neither n = 0
ref_of Unknown n = 0

abbrev pub read_len : ℕ → ℕ
read_len op = read_of (kind op) (len op)

abbrev pub ref_len : ℕ → ℕ
ref_len op = ref_of (kind op) (len op)

unfoldable pub read_sum : List ℕ → ℕ
read_sum [] = 0
read_sum (op ∷ ops) = read_len op + read_sum ops

unfoldable pub ref_sum : List ℕ → ℕ
ref_sum [] = 0
ref_sum (op ∷ ops) = ref_len op + ref_sum ops

-- the bytes taken four at a time; fewer than four at the end are no operation
unfoldable pub ops_of : List ℕ → List ℕ
ops_of [] = []
ops_of (a ∷ []) = []
ops_of (a ∷ b ∷ []) = []
ops_of (a ∷ b ∷ c ∷ []) = []
ops_of (a ∷ b ∷ c ∷ d ∷ r) = unsigned 4 (a ∷ b ∷ c ∷ d ∷ r) 0 ∷ ops_of r

-- the operations that stand from byte `from` to byte `end`
abbrev pub operations : ℕ → ℕ → List ℕ → List ℕ
operations from end s = ops_of (drop from (take end s))

-- the operations of a record with this layout
abbrev pub ops_in : Layout → List ℕ → List ℕ
ops_in y s = operations y.operations y.bases s
