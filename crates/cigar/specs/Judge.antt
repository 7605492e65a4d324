-- A record's operations judged: refusals 5, 7 and 8. A length of 0 is no fault.
use Rattle.refusal.specs.declared.Refusal.{Refusal}
use Rattle.cigar.specs.declared.Totals.{Totals}
use Rattle.std.specs.Prelude.{ℕ, suc, ◌+◌, List, [], ◌∷◌, cond, ◌&&◌, not, length, eqb, ltb, Result, Ok, Err}
use Rattle.refusal.specs.declared.Refusal.TheVariants.{OperationCode, ReadTotal, ReferenceEnd}
use Rattle.fields.specs.declared.Layout.{Layout}
use Rattle.cigar.specs.Operation.{Kind, Both, Reference, Read, Neither, Unknown, kind, read_sum, ref_sum, ops_in}
use Rattle.cigar.specs.declared.Extent.{Extent}

abbrev pub totals : ℕ → ℕ → Totals
totals a b = record { read = a; reference = b }

-- the code of the operation with index i, then what follows it
abbrev pub on_kind : Kind → ℕ → Result Totals ℕ → Result Totals ℕ
on_kind Both i rest = rest
on_kind Reference i rest = rest
on_kind Read i rest = rest
on_kind Neither i rest = rest
on_kind Unknown i rest = Err i

-- of operations whose indexes begin at i, the first with an unknown code, if there is one; else `good`
unfoldable pub fault_or : List ℕ → ℕ → Result Totals ℕ → Result Totals ℕ
fault_or [] i good = good
fault_or (op ∷ ops) i good = on_kind (kind op) i (fault_or ops (suc i) good)

abbrev pub walk_of : List ℕ → Result Totals ℕ
walk_of ops = fault_or ops 0 (Ok (totals (read_sum ops) (ref_sum ops)))

-- 5; then 7: bases and operations are there, and the lengths on the read don't total l_seq
abbrev pub judged : ℕ → ℕ → ℕ → Result Totals ℕ → Result ℕ Refusal
judged count n place (Ok t) = cond (ltb 0 count && ltb 0 n && not (eqb t.read count)) (Err (ReadTotal place)) (Ok t.reference)
judged count n place (Err i) = Err (OperationCode place i)

unfoldable pub operations_of : Layout → List ℕ → ℕ → Result ℕ Refusal
operations_of y s place = judged y.count (length (ops_in y s)) place (walk_of (ops_in y s))

-- the positions from pos on, counted from 1, of an alignment that uses so much of the reference
abbrev pub extent : ℕ → ℕ → Extent
extent pos uses = record { start = record { 0 = pos + 1 }; end = record { 0 = pos + 1 + uses } }

-- 8
unfoldable pub span_of : ℕ → ℕ → ℕ → Result Extent Refusal
span_of pos uses place = cond (ltb 2147483646 (pos + uses)) (Err (ReferenceEnd place)) (Ok (extent pos uses))
