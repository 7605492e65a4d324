-- Laws of runs and operations.
use Prim.Native.Nat.{ℕ, zero, suc, ◌+◌, ◌-◌, ◌*◌, ◌/◌, ◌%◌, ◌^◌, ◌≤◌, ◌<◌}
use mathlib.Core.Path.{◌≡◌, refl, sym, ap, ◌∙◌}
use mathlib.Core.List.{List, [], ◌∷◌}
use mathlib.Core.Option.{Option, none, some}
use mathlib.Core.Logic.{⊎_elim}
use mathlib.Core.Bool.{true, false}
use native.Mathlib.Omega.{arith}
use native.Mathlib.Numerals.{add-one, add-four}
use lib.ListN.{length, drop, length-drop, get_or-eq_default}
use lib.Seq.{drop-cons}
use lib.Dec.{eqb}
use mir.Syntax.{w64}
use mir.Val.{Fits}
use borrow.Author.Tests.{lt-ltb, le-ltb, le-leb, lt-leb, eqb-true, eqb-false}
use Rattle.cigar.specs.Operation.{Kind, Both, Reference, Read, Neither, Unknown, kind_of, kind, len, read_len, ref_len, read_of, ref_of, ops_of}
use Rattle.cigar.specs.Found.{run_at, op_at, off_at}
use Rattle.fields.specs.Number.{unsigned}
use Rattle.fields.proofs.Arith.{lt_or_le}

-- ---- a run
pub run_below : (n q r p : ℕ) (x : Option ℕ) → p < r → run_at n q r p x ≡ x
run_below n q r p x h = simp (lt-leb r p h)

pub run_in : (n q r p : ℕ) (x : Option ℕ) → r ≤ p → p < r + n → run_at n q r p x ≡ some (q + (p - r))
run_in n q r p x h k = simp (le-leb r p h, lt-ltb p (r + n) k)

pub run_past : (n q r p : ℕ) (x : Option ℕ) → r + n ≤ p → run_at n q r p x ≡ x
run_past n q r p x h =
    let k : r ≤ p = omega arith in
    simp (le-leb r p k, le-ltb p (r + n) h)

pub run_zero : (q r p : ℕ) (x : Option ℕ) → run_at 0 q r p x ≡ x
run_zero q r p x =
    ⊎_elim (λ h. run_below 0 q r p x h)
    (λ h. run_past 0 q r p x (omega arith))
    (lt_or_le p r)

-- a run of m bases and one of n right behind it are one run of m + n
pub run_join : (m n q r p : ℕ) (x : Option ℕ) → run_at (m + n) q r p x ≡ run_at m q r p (run_at n (q + m) (r + m) p x)
run_join m n q r p x =
    ⊎_elim
    (λ a. run_below (m + n) q r p x a ∙ sym (run_below m q r p _ a ∙ run_below n (q + m) (r + m) p x (omega arith)))
    (λ a. ⊎_elim (λ b. run_in (m + n) q r p x a (omega arith) ∙ sym (run_in m q r p _ a b)) later (lt_or_le p (r + m)))
    (lt_or_le p r)
  where
    later : r + m ≤ p → run_at (m + n) q r p x ≡ run_at m q r p (run_at n (q + m) (r + m) p x)
    later b =
        ⊎_elim
        (λ d. run_in (m + n) q r p x (omega arith) (omega arith) ∙ (ap some (omega arith) ∙ sym (run_past m q r p _ b ∙ run_in n (q + m) (r + m) p x b d)))
        (λ d. run_past (m + n) q r p x (omega arith) ∙ sym (run_past m q r p _ b ∙ run_past n (q + m) (r + m) p x d))
        (lt_or_le p (r + m + n))

-- an operation leaves a position below it to what follows
pub op_below : (k : Kind) (n q r p : ℕ) (x : Option ℕ) → p < r → op_at k n q r p x ≡ x
op_below Both n q r p x h = run_below n q r p x h
op_below Reference n q r p x h = refl
op_below Read n q r p x h = refl
op_below Neither n q r p x h = refl
op_below Unknown n q r p x h = refl

-- one that isn't aligned leaves it every position
pub op_none : (k : Kind) (n q r p : ℕ) (x : Option ℕ) → (k ≡ Both → ⊥) → op_at k n q r p x ≡ x
op_none Both n q r p x h = absurd (h refl)
op_none Reference n q r p x h = refl
op_none Read n q r p x h = refl
op_none Neither n q r p x h = refl
op_none Unknown n q r p x h = refl

pub off_below : (ops : List ℕ) (q r p : ℕ) → p < r → off_at ops q r p ≡ none
unfolding off_at
off_below [] q r p h = refl
off_below (w ∷ ws) q r p h =
    op_below (kind w) (len w) q r p _ h ∙ off_below ws (q + read_len w) (r + ref_len w) p (omega arith)

-- ---- what an operation uses, by the two bits of its code
-- 0x3C1A7
abbrev packed : ℕ
packed = 246183

abbrev uses_of : ℕ → ℕ
uses_of c = packed / 2 ^ (c * 2)

-- the bits are what the kind says, and a shift by the code, made twice, is one by twice the code
Told : ℕ → Type 0
Told c = (uses_of c % 2 ≡ read_of (kind_of c) 1) × (uses_of c / 2 % 2 ≡ ref_of (kind_of c) 1) × (packed / 2 ^ c / 2 ^ c ≡ uses_of c)

told : (c : ℕ) → c < 16 → Told c
unfolding Told
told zero h = (refl, refl, refl)
told (suc zero) h = (refl, refl, refl)
told (suc (suc zero)) h = (refl, refl, refl)
told (suc (suc (suc zero))) h = (refl, refl, refl)
told (suc (suc (suc (suc zero)))) h = (refl, refl, refl)
told (suc (suc (suc (suc (suc zero))))) h = (refl, refl, refl)
told (suc (suc (suc (suc (suc (suc zero)))))) h = (refl, refl, refl)
told (suc (suc (suc (suc (suc (suc (suc zero))))))) h = (refl, refl, refl)
told (suc (suc (suc (suc (suc (suc (suc (suc zero)))))))) h = (refl, refl, refl)
told (suc (suc (suc (suc (suc (suc (suc (suc (suc zero))))))))) h = (refl, refl, refl)
told (suc (suc (suc (suc (suc (suc (suc (suc (suc (suc zero)))))))))) h = (refl, refl, refl)
told (suc (suc (suc (suc (suc (suc (suc (suc (suc (suc (suc zero))))))))))) h = (refl, refl, refl)
told (suc (suc (suc (suc (suc (suc (suc (suc (suc (suc (suc (suc zero)))))))))))) h = (refl, refl, refl)
told (suc (suc (suc (suc (suc (suc (suc (suc (suc (suc (suc (suc (suc zero))))))))))))) h = (refl, refl, refl)
told (suc (suc (suc (suc (suc (suc (suc (suc (suc (suc (suc (suc (suc (suc zero)))))))))))))) h = (refl, refl, refl)
told (suc (suc (suc (suc (suc (suc (suc (suc (suc (suc (suc (suc (suc (suc (suc zero))))))))))))))) h = (refl, refl, refl)
told (suc (suc (suc (suc (suc (suc (suc (suc (suc (suc (suc (suc (suc (suc (suc (suc n)))))))))))))))) h = absurd (omega arith)

read_times : (k : Kind) (n : ℕ) → read_of k 1 * n ≡ read_of k n
read_times Both n = omega arith
read_times Reference n = omega arith
read_times Read n = omega arith
read_times Neither n = omega arith
read_times Unknown n = omega arith

ref_times : (k : Kind) (n : ℕ) → ref_of k 1 * n ≡ ref_of k n
ref_times Both n = omega arith
ref_times Reference n = omega arith
ref_times Read n = omega arith
ref_times Neither n = omega arith
ref_times Unknown n = omega arith

-- an aligned operation uses both, and only that
both_uses : (k : Kind) → k ≡ Both → read_of k 1 * ref_of k 1 ≡ 1
both_uses k e = rw e

both_used : (k : Kind) → read_of k 1 * ref_of k 1 ≡ 1 → k ≡ Both
both_used Both e = refl
both_used Reference e = absurd (omega arith)
both_used Read e = absurd (omega arith)
both_used Neither e = absurd (omega arith)
both_used Unknown e = absurd (omega arith)

-- no more than its length
pub uses_most : (k : Kind) (n : ℕ) → (read_of k n ≤ n) × (ref_of k n ≤ n)
uses_most Both n = (omega arith, omega arith)
uses_most Reference n = (omega arith, omega arith)
uses_most Read n = (omega arith, omega arith)
uses_most Neither n = (omega arith, omega arith)
uses_most Unknown n = (omega arith, omega arith)

bit_times : (b n : ℕ) → b < 2 → b * n ≤ n
bit_times zero n h = omega arith
bit_times (suc zero) n h = omega arith
bit_times (suc (suc b)) n h = absurd (omega arith)

-- a bit times a number fits where the number does
pub bit_fits : (x n : ℕ) → Fits w64 n → Fits w64 (x % 2 * n)
bit_fits x n h = omega (arith, bit_times (x % 2) n (omega arith), h)

-- a bit takes all of a length or nothing of it
bit_takes : (b n : ℕ) → b < 2 → (b ≡ 1 → n ≡ b * n) × ((b ≡ 1 → ⊥) → 0 ≡ b * n)
bit_takes zero n h = (λ t. absurd (omega arith), λ f. omega arith)
bit_takes (suc zero) n h = (λ t. omega arith, λ f. absurd (f refl))
bit_takes (suc (suc b)) n h = absurd (omega arith)

module _ (op : ℕ) where
  abbrev uses : ℕ
  uses = packed / 2 ^ (op % 16) / 2 ^ (op % 16)

  bits : Told (op % 16)
  bits = told (op % 16) (omega arith)

  pub read_told : (uses % 2 ≡ 1 → op / 16 ≡ read_len op) × ((uses % 2 ≡ 1 → ⊥) → 0 ≡ read_len op)
  unfolding Told
  read_told =
      rw (bits.2, bits.0, sym (read_times (kind op) (len op)))
      (bit_takes (read_of (kind op) 1) (len op) (omega (arith, (uses_most (kind op) 1).0)))

  pub ref_told : (uses / 2 % 2 ≡ 1 → op / 16 ≡ ref_len op) × ((uses / 2 % 2 ≡ 1 → ⊥) → 0 ≡ ref_len op)
  unfolding Told
  ref_told =
      rw (bits.2, bits.1, sym (ref_times (kind op) (len op)))
      (bit_takes (ref_of (kind op) 1) (len op) (omega (arith, (uses_most (kind op) 1).1)))

  abbrev product : ℕ
  product = uses_of (op % 16) % 2 * (uses_of (op % 16) / 2 % 2)

  pub both_told : (eqb product 1 ≡ true → kind op ≡ Both) × (eqb product 1 ≡ false → kind op ≡ Both → ⊥)
  unfolding Told
  both_told =
      rw (bits.0, bits.1)
      (λ e. both_used (kind op) (eqb-true _ 1 e), λ e f. eqb-false _ 1 e (both_uses (kind op) f))

-- ---- the operations of a list of bytes
pub kind_bad : (c : ℕ) → 9 ≤ c → kind_of c ≡ Unknown
kind_bad c h = get_or-eq_default (Both ∷ Read ∷ Reference ∷ Reference ∷ Read ∷ Neither ∷ Neither ∷ Both ∷ Both ∷ []) Unknown h

pub ops_step : (l : List ℕ) (at : ℕ) → at + 4 ≤ length l → ops_of (drop at l) ≡ unsigned 4 l at ∷ ops_of (drop (at + 4) l)
unfolding ops_of unsigned
ops_step l at h =
    let h0 : at < length l = omega arith in
    let h1 : suc at < length l = omega arith in
    let h2 : suc (suc at) < length l = omega arith in
    let h3 : suc (suc (suc at)) < length l = omega arith in
    simp (add-one, add-four)
    (rw (drop-cons l at 0 h0, drop-cons l (suc at) 0 h1, drop-cons l (suc (suc at)) 0 h2, drop-cons l (suc (suc (suc at))) 0 h3))

ops_few : (l : List ℕ) → length l < 4 → ops_of l ≡ []
unfolding ops_of
ops_few [] h = refl
ops_few (a ∷ []) h = refl
ops_few (a ∷ b ∷ []) h = refl
ops_few (a ∷ b ∷ c ∷ []) h = refl
ops_few (a ∷ b ∷ c ∷ d ∷ r) h = absurd (omega arith)

pub ops_short : (l : List ℕ) (at : ℕ) → length l - at < 4 → ops_of (drop at l) ≡ []
ops_short l at h = ops_few (drop at l) (rw length-drop h)
