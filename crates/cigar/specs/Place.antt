-- Where a base sits, in the document's sentence.
use Rattle.std.specs.Prelude.{ℕ, ◌+◌, ◌<◌, ◌≡◌, List, ◌∷◌, ◌++◌}
use Rattle.cigar.specs.Operation.{Both, kind, len, read_sum, ref_sum}
use Rattle.fields.specs.declared.RefPos.{RefPos}
use Rattle.fields.specs.declared.ReadOffset.{ReadOffset}

-- Base i of `count` sits at position p, where the alignment starts at the position `start` (the document's pos + 1): an M, = or X
-- operation and some k below its length exist with i = read lengths before it + k and p = start + reference lengths before it + k.
pub record Sits (count : ℕ) (ops : List ℕ) (start : RefPos) (i : ReadOffset) (p : RefPos) : Type 0 where
  pub base : i.0 < count
  pub before : List ℕ
  pub op : ℕ
  pub after : List ℕ
  pub split : ops ≡ before ++ op ∷ after
  pub aligned : kind op ≡ Both
  pub k : ℕ
  pub below : k < len op
  pub read : i.0 ≡ read_sum before + k
  pub place : p.0 ≡ start.0 + ref_sum before + k
