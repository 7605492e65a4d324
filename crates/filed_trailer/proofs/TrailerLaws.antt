-- What a trailer says after it was stamped, and of a raw one; and what is known of one that is not wrong.
use Prim.Native.Nat.{ℕ, zero, suc, ◌+◌, ◌<◌, ◌≤◌}
use mathlib.Core.Path.{◌≡◌, refl, ap, ◌∙◌}
use mathlib.Core.Bool.{Bool, true, false, not, ◌||◌, ◌&&◌}
use mathlib.Core.List.{List, ◌++◌}
use mathlib.Core.Logic.{◌⊎◌, inl, inr, ⊎_elim}
use native.Mathlib.Omega.{arith}
use lib.Dec.{ltb, eqb}
use lib.ListN.{length, get_or, drop, set, replicate, length-set, length-replicate, get_or-replicate}
use lib.Seq.{get_or-set_same, get_or-set_other}
use borrow.Author.Tests.{ltb-false, le-ltb, eq-eqb, eqb-true, not-false}
use Rattle.fields.specs.Number.{unsigned, put}
use Rattle.fields.proofs.NumberLaws.{length_put, put_before, put_after, le_put, le_same, le_behind}
use Rattle.stats.specs.declared.CorrectionStats.{CorrectionStats}
use Rattle.stats.specs.Counts.{zeroed, above}
use Rattle.stats.specs.Room.{AtMost}
use Rattle.stats.proofs.CountLaws.{counts_as}
use Rattle.stats.specs.Tally.{counts_at}
use Rattle.stats.proofs.TallyLaws.{read_back, length_with, with_before, with_after}
use Rattle.filed_trailer.specs.declared.Trailer.{Trailer}
use Rattle.filed_trailer.specs.Trailer.{trailer_at, wrong, stamped, raw_trailer, raw_in}

-- a trailer by its fields
abbrev pub trailer : ℕ → ℕ → ℕ → CorrectionStats → ℕ → Trailer
trailer s w n g p = record { state = s; strategies = w; records = n; growth = g; distance = p }

trailer_as : (t u : Trailer) → t.state ≡ u.state → t.strategies ≡ u.strategies → t.records ≡ u.records → t.growth ≡ u.growth → t.distance ≡ u.distance → t ≡ u
trailer_as t u s w n g p = λ i. record { state = s i; strategies = w i; records = n i; growth = g i; distance = p i }

-- a number of one byte is that byte
pub one_byte : (s : List ℕ) (at : ℕ) → unsigned 1 s at ≡ get_or s at 0
unfolding unsigned
one_byte s at = omega arith

-- a trailer says the same behind them
pub trailer_at_lem : (x t : List ℕ) → trailer_at (x ++ t) (length x) ≡ trailer_at t 0
trailer_at_lem x t =
    let n : (w j k : ℕ) → j ≡ length x + k → unsigned w (x ++ t) j ≡ unsigned w t k = λ w j k e. ap (unsigned w (x ++ t)) e ∙ le_behind w x t k in
    trailer_as (trailer_at (x ++ t) (length x)) (trailer_at t 0) (n 1 _ 4 refl) (n 1 _ 5 refl) (n 4 _ 6 refl)
    (counts_as (counts_at (x ++ t) (length x + 10)) (counts_at t 10) (n 8 _ 10 refl) (n 8 _ 18 (omega arith)) (n 8 _ 26 (omega arith)) (n 8 _ 34 (omega arith)))
    (n 8 _ 42 refl)

-- ---- a stamped trailer
module _ (t : List ℕ) (g : CorrectionStats) where
  pub stamped_size : length (stamped t g) ≡ length t
  stamped_size = length_with (set t 4 1) 10 g ∙ length-set t 4 1

  -- a byte that is neither the state's nor a growth's
  stamped_other : (k : ℕ) → (k ≡ 4 → ⊥) → (k < 10) ⊎ (42 ≤ k) → get_or (stamped t g) k 0 ≡ get_or t k 0
  stamped_other k d h =
      ⊎_elim (λ (l : k < 10). with_before (set t 4 1) 10 g k l) (λ (l : 42 ≤ k). with_after (set t 4 1) 10 g k l) h ∙ get_or-set_other t 4 k 1 0 d

  stamped_same : (w at : ℕ) → ((k : ℕ) → at ≤ k → k < at + w → (k ≡ 4 → ⊥) × ((k < 10) ⊎ (42 ≤ k))) → unsigned w (stamped t g) at ≡ unsigned w t at
  stamped_same w at h = le_same w (stamped t g) t at (λ k l u. stamped_other k (h k l u).0 (h k l u).1)

  pub stamped_zero : unsigned 4 (stamped t g) 0 ≡ unsigned 4 t 0
  stamped_zero = stamped_same 4 0 (λ k l u. ((λ e. omega arith), inl (omega arith)))

  stamped_state : 4 < length t → unsigned 1 (stamped t g) 4 ≡ 1
  stamped_state h = one_byte (stamped t g) 4 ∙ with_before (set t 4 1) 10 g 4 (omega arith) ∙ get_or-set_same t 4 1 0 h

-- of the raw one's fields only state and growths change
pub stamped_reads : (x t : List ℕ) (g : CorrectionStats) → length t ≡ 50 → AtMost 18446744073709551615 g
    → trailer_at (x ++ stamped t g) (length x) ≡ trailer 1 (trailer_at t 0).strategies (trailer_at t 0).records g (trailer_at t 0).distance
stamped_reads x t g size h =
    trailer_at_lem x (stamped t g)
    ∙ trailer_as (trailer_at (stamped t g) 0) (trailer 1 (trailer_at t 0).strategies (trailer_at t 0).records g (trailer_at t 0).distance)
    (stamped_state t g (omega arith))
    (stamped_same t g 1 5 (λ k l u. ((λ e. omega arith), inl (omega arith))))
    (stamped_same t g 4 6 (λ k l u. ((λ e. omega arith), inl (omega arith))))
    (read_back (set t 4 1) 10 g (omega (arith, length-set t 4 1)) h)
    (stamped_same t g 8 42 (λ k l u. ((λ e. omega arith), inr l)))

-- ---- a trailer that is not wrong
or_false : (a b : Bool) → a || b ≡ false → (a ≡ false) × (b ≡ false)
or_false true b e = let z : ◌≡◌ {A = ℕ} 0 1 = cc in absurd (omega arith)
or_false false b e = (refl, e)

above_none : (g : CorrectionStats) → above 0 g ≡ false → g ≡ zeroed
above_none g e =
    let p = or_false _ (ltb 0 g.corrected) e in
    let q = or_false _ (ltb 0 g.disagreeing) p.0 in
    let r = or_false (ltb 0 g.overlapping) (ltb 0 g.agreeing) q.0 in
    counts_as g zeroed
    (omega (arith, ltb-false 0 g.overlapping r.0))
    (omega (arith, ltb-false 0 g.agreeing r.1))
    (omega (arith, ltb-false 0 g.disagreeing q.1))
    (omega (arith, ltb-false 0 g.corrected p.1))

module _ (t : Trailer) (n p : ℕ) where
  -- what each of its fields is known to be
  pub wrong_parts : wrong t n p ≡ false
      → (t.state ≤ 1) × (t.strategies ≤ 8) × (t.records ≡ n) × (t.distance ≡ p) × (t.state ≡ 0 → t.growth ≡ zeroed)
  wrong_parts e =
      let g = or_false _ (eqb t.state 0 && above 0 t.growth) e in
      let d = or_false _ (not (eqb t.distance p)) g.0 in
      let r = or_false _ (not (eqb t.records n)) d.0 in
      let s = or_false (ltb 1 t.state) (ltb 8 t.strategies) r.0 in (
        ltb-false 1 t.state s.0,
        ltb-false 8 t.strategies s.1,
        eqb-true t.records n (not-false _ r.1),
        eqb-true t.distance p (not-false _ d.1),
        λ z. above_none t.growth (rw (eq-eqb t.state 0 z) at g.1),
      )

  -- its fields in the trailer of the corrected group fit too
  pub stamped_fits : (g : CorrectionStats) → wrong t n p ≡ false → wrong (trailer 1 t.strategies t.records g t.distance) n p ≡ false
  stamped_fits g e =
      let h = wrong_parts e in
      rw (le-ltb 8 t.strategies h.1, eq-eqb t.records n h.2, eq-eqb t.distance p h.3)

-- ---- a raw trailer
module _ (w n p : ℕ) where
  abbrev r0 : List ℕ
  r0 = set (replicate 50 0) 5 w

  abbrev r1 : List ℕ
  r1 = put 4 r0 6 n

  r1_size : length r1 ≡ 50
  r1_size = length_put 4 r0 6 n ∙ length-set (replicate 50 0) 5 w ∙ length-replicate {A = ℕ} 50 0

  pub raw_size : length (raw_trailer w n p) ≡ 50
  unfolding raw_trailer
  raw_size = length_put 8 r1 42 p ∙ r1_size

  -- made in two stores, it is 50 bytes long
  pub raw_long : (a b : List ℕ) → a ≡ r1 → b ≡ put 8 a 42 p → length b ≡ 50
  raw_long a b e f = ap length f ∙ length_put 8 a 42 p ∙ ap length e ∙ r1_size

  -- and copied
  pub raw_made : (t a b c : List ℕ) → a ≡ r1 → b ≡ put 8 a 42 p → c ≡ b → c ++ drop 50 t ≡ raw_in t w n p
  unfolding raw_trailer
  raw_made t a b c e f h = ap (λ (x : List ℕ). x ++ drop 50 t) (h ∙ f ∙ ap (λ (x : List ℕ). put 8 x 42 p) e)

  -- a byte of none of the three
  raw_none : (k : ℕ) → (k < 5) ⊎ ((10 ≤ k) × (k < 42)) → get_or (raw_trailer w n p) k 0 ≡ 0
  unfolding raw_trailer
  raw_none k h =
      let z : (k ≡ 5 → ⊥) → k < 42 → get_or r0 k 0 ≡ 0 = λ d l. get_or-set_other (replicate 50 0) 5 k w 0 d ∙ get_or-replicate 50 k 0 0 (omega arith) in
      ⊎_elim
      (λ (l : k < 5). put_before 8 r1 42 p k (omega arith) ∙ put_before 4 r0 6 n k (omega arith) ∙ z (λ e. omega arith) (omega arith))
      (λ (l : (10 ≤ k) × (k < 42)). put_before 8 r1 42 p k l.1 ∙ put_after 4 r0 6 n k l.0 ∙ z (λ e. omega (arith, l.0)) l.1)
      h

  raw_zeros : (v at : ℕ) → ((k : ℕ) → at ≤ k → k < at + v → (k < 5) ⊎ ((10 ≤ k) × (k < 42))) → unsigned v (raw_trailer w n p) at ≡ 0
  unfolding unsigned
  raw_zeros zero at h = refl
  raw_zeros (suc v) at h =
      omega (arith, raw_none at (h at (omega arith) (omega arith)), raw_zeros v (at + 1) (λ k l u. h k (omega arith) (omega arith)))

  -- four zero bytes where a size would stand
  pub raw_zero : unsigned 4 (raw_trailer w n p) 0 ≡ 0
  raw_zero = raw_zeros 4 0 (λ k l u. inl (omega arith))

  raw_strategies : unsigned 1 (raw_trailer w n p) 5 ≡ w
  unfolding raw_trailer
  raw_strategies =
      one_byte (raw_trailer w n p) 5 ∙ put_before 8 r1 42 p 5 (omega arith) ∙ put_before 4 r0 6 n 5 (omega arith)
      ∙ get_or-set_same (replicate 50 0) 5 w 0 (omega (arith, length-replicate {A = ℕ} 50 0))

  raw_records : n < 4294967296 → unsigned 4 (raw_trailer w n p) 6 ≡ n
  unfolding raw_trailer
  raw_records h =
      le_same 4 (raw_trailer w n p) r1 6 (λ k l u. put_before 8 r1 42 p k (omega arith))
      ∙ le_put 4 r0 6 n (omega (arith, r1_size, length_put 4 r0 6 n)) (omega arith)

  raw_distance : p < 18446744073709551616 → unsigned 8 (raw_trailer w n p) 42 ≡ p
  unfolding raw_trailer
  raw_distance h = le_put 8 r1 42 p (omega (arith, r1_size)) (omega arith)

  -- what it says
  pub raw_reads : n < 4294967296 → p < 18446744073709551616 → trailer_at (raw_trailer w n p) 0 ≡ trailer 0 w n zeroed p
  raw_reads hn hp =
      let none : (at : ℕ) → 10 ≤ at → at + 8 ≤ 42 → unsigned 8 (raw_trailer w n p) at ≡ 0 = λ at l u. raw_zeros 8 at (λ k lo hi. inr (omega arith, omega arith)) in
      trailer_as (trailer_at (raw_trailer w n p) 0) (trailer 0 w n zeroed p)
      (raw_zeros 1 4 (λ k l u. inl (omega arith)))
      raw_strategies
      (raw_records hn)
      (counts_as (counts_at (raw_trailer w n p) 10) zeroed (none 10 (omega arith) (omega arith)) (none 18 (omega arith) (omega arith)) (none 26 (omega arith) (omega arith)) (none 34 (omega arith) (omega arith)))
      (raw_distance hp)
