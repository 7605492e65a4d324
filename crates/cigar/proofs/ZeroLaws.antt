-- An operation of length 0 counts nothing and places no base: an alignment without it has the same sums, and each base sits where it sat.
use Prim.Native.Nat.{ℕ, ◌+◌}
use mathlib.Core.Path.{◌≡◌, sym, ap, ap₂, ◌∙◌}
use mathlib.Core.List.{List, [], ◌∷◌, ◌++◌}
use mathlib.Core.Logic.{◌↔◌, ⊎_elim}
use native.Mathlib.Omega.{arith}
use Rattle.fields.specs.declared.RefPos.{RefPos}
use Rattle.fields.specs.declared.ReadOffset.{ReadOffset}
use Rattle.fields.proofs.Arith.{lt_or_le}
use Rattle.cigar.specs.Operation.{kind, len, read_len, ref_len, read_sum, ref_sum}
use Rattle.cigar.specs.Place.{Sits}
use Rattle.cigar.specs.Found.{op_at, off_at, of_bases}
use Rattle.cigar.proofs.PlaceLaws.{op_below, uses_most}
use Rattle.cigar.proofs.SitsLaws.{op_past, sits_found, found_sits, read_append, ref_append}

module _ (op : ℕ) (none : len op ≡ 0) where
  read_none : read_len op ≡ 0
  read_none = omega (arith, (uses_most (kind op) (len op)).0)

  ref_none : ref_len op ≡ 0
  ref_none = omega (arith, (uses_most (kind op) (len op)).1)

  -- it counts nothing
  pub read_without : (before after : List ℕ) → read_sum (before ++ op ∷ after) ≡ read_sum (before ++ after)
  unfolding read_sum
  read_without before after = omega (arith, read_append before (op ∷ after), read_append before after, read_none)

  pub ref_without : (before after : List ℕ) → ref_sum (before ++ op ∷ after) ≡ ref_sum (before ++ after)
  unfolding ref_sum
  ref_without before after = omega (arith, ref_append before (op ∷ after), ref_append before after, ref_none)

  off_without : (before after : List ℕ) (q r p : ℕ) → off_at (before ++ op ∷ after) q r p ≡ off_at (before ++ after) q r p
  unfolding off_at
  off_without [] after q r p =
      let rest = off_at after (q + read_len op) (r + ref_len op) p in
      ⊎_elim (op_below (kind op) (len op) q r p rest) (λ h. op_past (kind op) (len op) q r p rest (omega (arith, ref_none))) (lt_or_le p r)
      ∙ ap₂ (λ (x y : ℕ). off_at after x y p) (omega (arith, read_none)) (omega (arith, ref_none))
  off_without (w ∷ ws) after q r p = ap (op_at (kind w) (len w) q r p) (off_without ws after (q + read_len w) (r + ref_len w) p)

  -- and places no base
  pub sits_without : (count : ℕ) (before after : List ℕ) (start : RefPos) (i : ReadOffset) (p : RefPos)
      → Sits count (before ++ op ∷ after) start i p ↔ Sits count (before ++ after) start i p
  sits_without count before after start i p =
      let same = ap (of_bases count) (off_without before after 0 start.0 p.0) in (
        λ s. found_sits count (before ++ after) start.0 i.0 p.0 (sym same ∙ sits_found s),
        λ s. found_sits count (before ++ op ∷ after) start.0 i.0 p.0 (same ∙ sits_found s),
      )
