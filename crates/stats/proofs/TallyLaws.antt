-- The counts that were written are read, and all other bytes stay.
use Prim.Native.Nat.{ℕ, ◌+◌, ◌<◌, ◌≤◌}
use mathlib.Core.Path.{◌≡◌, ◌∙◌}
use mathlib.Core.List.{List}
use native.Mathlib.Omega.{arith}
use lib.ListN.{length, get_or}
use Rattle.fields.specs.Number.{unsigned, put}
use Rattle.fields.proofs.NumberLaws.{length_put, put_before, put_after, le_put, le_same}
use Rattle.stats.specs.declared.CorrectionStats.{CorrectionStats}
use Rattle.stats.specs.Room.{AtMost}
use Rattle.stats.proofs.CountLaws.{counts_as}
use Rattle.stats.specs.Tally.{counts_at, with_counts}

-- a number is read as it was where another is written behind it
apart : (s : List ℕ) (at v from : ℕ) → at + 8 ≤ from → unsigned 8 (put 8 s from v) at ≡ unsigned 8 s at
apart s at v from h = le_same 8 (put 8 s from v) s at (λ k lo hi. put_before 8 s from v k (omega arith))

module _ (c : List ℕ) (at : ℕ) (g : CorrectionStats) where
  abbrev c1 : List ℕ
  c1 = put 8 c at g.overlapping

  abbrev c2 : List ℕ
  c2 = put 8 c1 (at + 8) g.agreeing

  abbrev c3 : List ℕ
  c3 = put 8 c2 (at + 16) g.disagreeing

  -- the counts that were written are read
  pub read_back : at + 32 ≤ length c → AtMost 18446744073709551615 g → counts_at (with_counts c at g) at ≡ g
  read_back size h =
      let l1 = length_put 8 c at g.overlapping in
      let l2 = length_put 8 c1 (at + 8) g.agreeing in
      let l3 = length_put 8 c2 (at + 16) g.disagreeing in
      counts_as (counts_at (with_counts c at g) at) g
      (apart c3 at g.corrected (at + 24) (omega arith)
      ∙ (apart c2 at g.disagreeing (at + 16) (omega arith)
      ∙ (apart c1 at g.agreeing (at + 8) (omega arith) ∙ le_put 8 c at g.overlapping (omega arith) (omega (arith, h.overlapping)))))
      (apart c3 (at + 8) g.corrected (at + 24) (omega arith)
      ∙ (apart c2 (at + 8) g.disagreeing (at + 16) (omega arith) ∙ le_put 8 c1 (at + 8) g.agreeing (omega (arith, l1)) (omega (arith, h.agreeing))))
      (apart c3 (at + 16) g.corrected (at + 24) (omega arith) ∙ le_put 8 c2 (at + 16) g.disagreeing (omega (arith, l1, l2)) (omega (arith, h.disagreeing)))
      (le_put 8 c3 (at + 24) g.corrected (omega (arith, l1, l2, l3)) (omega (arith, h.corrected)))

  -- the length stays
  pub length_with : length (with_counts c at g) ≡ length c
  length_with =
      length_put 8 c3 (at + 24) g.corrected ∙ length_put 8 c2 (at + 16) g.disagreeing
      ∙ length_put 8 c1 (at + 8) g.agreeing ∙ length_put 8 c at g.overlapping

  -- and the bytes before them
  pub with_before : (k : ℕ) → k < at → get_or (with_counts c at g) k 0 ≡ get_or c k 0
  with_before k h =
      put_before 8 c3 (at + 24) g.corrected k (omega arith) ∙ put_before 8 c2 (at + 16) g.disagreeing k (omega arith)
      ∙ put_before 8 c1 (at + 8) g.agreeing k (omega arith) ∙ put_before 8 c at g.overlapping k h

  -- and those after them
  pub with_after : (k : ℕ) → at + 32 ≤ k → get_or (with_counts c at g) k 0 ≡ get_or c k 0
  with_after k h =
      put_after 8 c3 (at + 24) g.corrected k (omega arith) ∙ put_after 8 c2 (at + 16) g.disagreeing k (omega arith)
      ∙ put_after 8 c1 (at + 8) g.agreeing k (omega arith) ∙ put_after 8 c at g.overlapping k (omega arith)
