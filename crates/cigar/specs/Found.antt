-- The base at a position, computed.
use Rattle.std.specs.Prelude.{ℕ, ◌+◌, ◌-◌, List, [], ◌∷◌, cond, ltb, leb}
use Rattle.std.proofs.Math.Option.{Option, none, some}
use Rattle.cigar.specs.Operation.{Kind, Both, Reference, Read, Neither, Unknown, kind, len, read_len, ref_len}

-- the n bases from read offset q on stand at the n positions from r on; elsewhere it is `rest`
abbrev pub run_at : ℕ → ℕ → ℕ → ℕ → Option ℕ → Option ℕ
run_at n q r p rest = cond (leb r p) (cond (ltb p (r + n)) (some (q + (p - r))) rest) rest

abbrev pub op_at : Kind → ℕ → ℕ → ℕ → ℕ → Option ℕ → Option ℕ
op_at Both n q r p rest = run_at n q r p rest
op_at Reference n q r p rest = rest
op_at Read n q r p rest = rest
op_at Neither n q r p rest = rest
op_at Unknown n q r p rest = rest

-- the offset of the base at position p, if there is one, where the operations begin at read offset q and at position r
unfoldable pub off_at : List ℕ → ℕ → ℕ → ℕ → Option ℕ
off_at [] q r p = none
off_at (w ∷ ws) q r p = op_at (kind w) (len w) q r p (off_at ws (q + read_len w) (r + ref_len w) p)

-- only the first `count` bases are there
abbrev pub of_bases : ℕ → Option ℕ → Option ℕ
of_bases count none = none
of_bases count (some i) = cond (ltb i count) (some i) none

-- the offset of the base that sits at position p
abbrev pub base_on : ℕ → List ℕ → ℕ → ℕ → Option ℕ
base_on count ops start p = of_bases count (off_at ops 0 start p)
