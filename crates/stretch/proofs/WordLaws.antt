-- The 16 bases of a word are those of the bytes that it is read from, and words one behind the other make a stretch.
use Prim.Native.Nat.{ℕ, zero, suc, ◌+◌, ◌-◌, ◌*◌, ◌/◌, ◌%◌, ◌^◌, ◌≤◌, ◌<◌, min}
use mathlib.Core.Path.{◌≡◌, refl, sym, ap, ap₂, ◌∙◌}
use mathlib.Core.List.{List}
use mathlib.Core.Logic.{⊎_elim}
use native.Mathlib.Omega.{arith}
use lib.ListN.{get_or}
use lib.Bits.{bit_and, bit_or, and_shr, and_mod, and_mask, and_le_r, or_shr, or_mod, or_shifted}
use Rattle.fields.specs.declared.Layout.{Layout}
use Rattle.bases.specs.Base.{half, base_at}
use Rattle.bases.specs.Code.{N}
use Rattle.fields.specs.Number.{unsigned}
use Rattle.fields.proofs.Arith.{eq_or_ne, lt_or_le}
use Rattle.stretch.specs.Halves.{half_of, code_at, Holds, Stretch}
use Rattle.stretch.specs.Alike.{Alike, Agreeing}
use Rattle.stretch.proofs.HalfLaws.{byte_suc, shr_swap, filled, filled_byte}

abbrev byte_of : ℕ → ℕ → ℕ
byte_of w j = w / 2 ^ (8 * j) % 256

-- the low half of each byte
abbrev lows : ℕ
lows = 0x0f0f_0f0f_0f0f_0f0f

low_byte : (w j : ℕ) → j < 8 → byte_of (bit_and w lows) j ≡ byte_of w j % 16
unfolding filled
low_byte w j h =
    ap (λ (n : ℕ). n % 256) (and_shr w lows (8 * j))
    ∙ (and_mod (w / 2 ^ (8 * j)) (lows / 2 ^ (8 * j)) 8
    ∙ (ap (bit_and (byte_of w j)) (filled_byte 8 15 j (omega arith) h) ∙ and_mask (byte_of w j) 4))

-- bytes that are low halves, shifted to be high ones
high_byte : (m j x : ℕ) → ((i : ℕ) → i < m → byte_of x i < 16) → j < m → byte_of (x * 16) j ≡ byte_of x j * 16
high_byte zero j x h l = absurd (omega arith)
high_byte (suc m) zero x h l = omega (arith, h 0 (omega arith))
high_byte (suc m) (suc j) x h l =
    let e : x * 16 / 256 ≡ x / 256 * 16 = omega (arith, h 0 (omega arith)) in
    rw (byte_suc, byte_suc, e) (high_byte m j (x / 256) (λ i q. rw byte_suc at (h (suc i) (omega arith))) (omega arith))

-- what the program computes of the words from a byte on and from the next on
abbrev pub joined : ℕ → ℕ → ℕ
joined w v = bit_or (bit_and w lows * 16 % 2 ^ 64) (bit_and (v / 16) lows)

joined_byte : (w v j : ℕ) → j < 8 → byte_of (joined w v) j ≡ byte_of w j % 16 * 16 + byte_of v j / 16
joined_byte w v j h =
    let f : bit_and w lows * 16 % 2 ^ 64 ≡ bit_and w lows * 16 = omega (arith, and_le_r w lows) in
    let a : byte_of (bit_and w lows * 16) j ≡ byte_of w j % 16 * 16 =
    high_byte 8 j (bit_and w lows) (λ i l. omega (arith, low_byte w i l)) h ∙ ap (λ (n : ℕ). n * 16) (low_byte w j h) in
    let b : byte_of (bit_and (v / 16) lows) j ≡ byte_of v j / 16 = omega (arith, low_byte (v / 16) j h, shr_swap v (8 * j) 4) in
    rw f
    (ap (λ (n : ℕ). n % 256) (or_shr (bit_and w lows * 16) (bit_and (v / 16) lows) (8 * j))
    ∙ (or_mod (bit_and w lows * 16 / 2 ^ (8 * j)) (bit_and (v / 16) lows / 2 ^ (8 * j)) 8
    ∙ (ap₂ bit_or a b ∙ or_shifted (byte_of w j % 16) 4 (byte_of v j / 16) (omega arith))))

module _ (s : List ℕ) (small : (i : ℕ) → get_or s i 0 < 256) where
  read_byte : (n at j : ℕ) → j < n → byte_of (unsigned n s at) j ≡ get_or s (at + j) 0
  unfolding unsigned
  read_byte zero at j h = absurd (omega arith)
  read_byte (suc n) at zero h =
      let e : at + 0 ≡ at = omega arith in
      rw e (omega (arith, small at))
  read_byte (suc n) at (suc j) h =
      let e : at + suc j ≡ at + 1 + j = omega arith in
      let r : (get_or s at 0 + 256 * unsigned n s (at + 1)) / 256 ≡ unsigned n s (at + 1) = omega (arith, small at) in
      rw (byte_suc, r, e) (read_byte n (at + 1) j (omega arith))

  pub holds_even : (at odd : ℕ) → odd ≡ 0 → Holds s (2 * at + odd) (unsigned 8 s at)
  unfolding half_of code_at
  holds_even at odd z =
      record {
        code = λ k h.
            let p : (2 * at + odd + k) % 2 ≡ k % 2 = omega arith in
            let q : (2 * at + odd + k) / 2 ≡ at + k / 2 = omega arith in
            rw (p, q, read_byte 8 at (k / 2) (omega arith));
      }

  pub holds_odd : (at odd : ℕ) → odd ≡ 1 → Holds s (2 * at + odd) (joined (unsigned 8 s at) (unsigned 8 s (at + 1)))
  unfolding half_of code_at
  holds_odd at odd o = record { code = λ k h. ⊎_elim (even k h) (later k h) (eq_or_ne (k % 2) 0) }
    where
      byte : (j : ℕ) → j < 8 → byte_of (joined (unsigned 8 s at) (unsigned 8 s (at + 1))) j ≡ get_or s (at + j) 0 % 16 * 16 + get_or s (at + 1 + j) 0 / 16
      byte j h =
          joined_byte (unsigned 8 s at) (unsigned 8 s (at + 1)) j h
          ∙ ap₂ (λ (x y : ℕ). x % 16 * 16 + y / 16) (read_byte 8 at j h) (read_byte 8 (at + 1) j h)

      even : (k : ℕ) → k < 16 → k % 2 ≡ 0 → half (k % 2) (byte_of (joined (unsigned 8 s at) (unsigned 8 s (at + 1))) (k / 2)) ≡ half ((2 * at + odd + k) % 2) (get_or s ((2 * at + odd + k) / 2) 0)
      even k h e =
          let p : (2 * at + odd + k) % 2 ≡ 1 = omega arith in
          let q : (2 * at + odd + k) / 2 ≡ at + k / 2 = omega arith in
          rw (e, p, q, byte (k / 2) (omega arith)) (omega (arith, small (at + 1 + k / 2)))

      later : (k : ℕ) → k < 16 → (k % 2 ≡ 0 → ⊥) → half (k % 2) (byte_of (joined (unsigned 8 s at) (unsigned 8 s (at + 1))) (k / 2)) ≡ half ((2 * at + odd + k) % 2) (get_or s ((2 * at + odd + k) / 2) 0)
      later k h n =
          let e : k % 2 ≡ 1 = omega arith in
          let p : (2 * at + odd + k) % 2 ≡ 0 = omega arith in
          let q : (2 * at + odd + k) / 2 ≡ at + 1 + k / 2 = omega arith in
          rw (e, p, q, byte (k / 2) (omega arith)) (omega (arith, small (at + 1 + k / 2)))

-- ---- words one behind the other
-- n halves from i of a and from j of b on are the same, and none is N
pub record Run (a b : List ℕ) (i j n : ℕ) : Type 0 where
  pub same : (k : ℕ) → k < n → code_at a (i + k) ≡ code_at b (j + k)
  pub called : (k : ℕ) → k < n → code_at a (i + k) ≡ N → ⊥

run_less : (a b : List ℕ) (i j m n : ℕ) → n ≤ m → Run a b i j m → Run a b i j n
run_less a b i j m n l f = record { same = λ k h. f.same k (omega arith); called = λ k h. f.called k (omega arith) }

-- t are, and behind these n
run_more : (a b : List ℕ) (i j t n : ℕ) → Run a b i j t → Run a b (i + t) (j + t) n → Run a b i j (t + n)
run_more a b i j t n f g =
    record {
      same = λ k h. ⊎_elim (λ (q : k < t). f.same k q) (λ (q : t ≤ k). rw (at i k q, at j k q) at (g.same (k - t) (omega arith))) (lt_or_le k t);
      called = λ k h. ⊎_elim (λ (q : k < t). f.called k q) (λ (q : t ≤ k). rw (at i k q) at (g.called (k - t) (omega arith))) (lt_or_le k t);
    }
  where
    at : (e k : ℕ) → t ≤ k → e + t + (k - t) ≡ e + k
    at e k q = omega arith

-- what is found in two words is so of the halves that they hold
run_word : (a b : List ℕ) (i j v w n : ℕ) → Holds a i v → Holds b j w → Stretch v w n → Run a b i j n
run_word a b i j v w n h k f =
    record {
      same = λ u l. sym (h.code u (omega (arith, f.most))) ∙ ((f.well u l).0 ∙ k.code u (omega (arith, f.most)));
      called = λ u l e. (f.well u l).1 (h.code u (omega (arith, f.most)) ∙ e);
    }

-- the halves before t are the same and none is N, and the next word begins where the first did in its byte
pub record Scanned (a b : List ℕ) (i j t : ℕ) : Type 0 where
  pub run : Run a b i j t
  pub even : t % 2 ≡ 0

pub scan_start : (a b : List ℕ) (i j : ℕ) → Scanned a b i j 0
scan_start a b i j = record { run = record { same = λ k h. absurd (omega arith); called = λ k h. absurd (omega arith) }; even = refl }

-- ---- two records: base i of one is half 2 * bases + i
base_code : (s : List ℕ) (y : Layout) (i k : ℕ) → code_at s (2 * (y.bases + i / 2) + i % 2 + k) ≡ base_at s y (i + k)
unfolding code_at
base_code s y i k =
    let p : (2 * (y.bases + i / 2) + i % 2 + k) % 2 ≡ (i + k) % 2 = omega arith in
    let q : (2 * (y.bases + i / 2) + i % 2 + k) / 2 ≡ y.bases + (i + k) / 2 = omega arith in
    rw (p, q)

module _ (a b : List ℕ) (y z : Layout) (i j at₁ odd₁ at₂ odd₂ : ℕ) (e₁ : at₁ ≡ y.bases + i / 2) (d₁ : odd₁ ≡ i % 2) (e₂ : at₂ ≡ z.bases + j / 2) (d₂ : odd₂ ≡ j % 2) where
  alike_run : (n : ℕ) → Run a b (2 * at₁ + odd₁) (2 * at₂ + odd₂) n → Alike a b y z i j n
  alike_run n r =
      record {
        same = λ k h. sym (base_code a y i k) ∙ ((rw (e₁, d₁, e₂, d₂) at (r.same k h)) ∙ base_code b z j k);
        called = λ k h x. (rw (e₁, d₁) at (r.called k h)) (base_code a y i k ∙ x);
      }

  module _ (t v w n : ℕ) (so : Scanned a b (2 * at₁ + odd₁) (2 * at₂ + odd₂) t) (h : Holds a (2 * (at₁ + t / 2) + odd₁) v) (k : Holds b (2 * (at₂ + t / 2) + odd₂) w) (f : Stretch v w n) where
    next : (at odd : ℕ) → 2 * (at + t / 2) + odd ≡ 2 * at + odd + t
    next at odd = omega (arith, so.even)

    further : Run a b (2 * at₁ + odd₁ + t) (2 * at₂ + odd₂ + t) n
    further = rw (next at₁ odd₁, next at₂ odd₂) at (run_word a b (2 * (at₁ + t / 2) + odd₁) (2 * (at₂ + t / 2) + odd₂) v w n h k f)

    pub scan_turn : 16 ≤ n → Scanned a b (2 * at₁ + odd₁) (2 * at₂ + odd₂) (t + 16)
    scan_turn l = record { run = run_more a b _ _ t 16 so.run (run_less a b _ _ n 16 l further); even = omega (arith, so.even) }

    -- the stretch ends in this word, unless that lies past the m positions
    pub scan_found : (m r : ℕ) → n < 16 → r ≡ min (t + n) m → Agreeing a b y z i j m r
    scan_found m r l e =
        record {
          most = omega arith;
          alike = alike_run r (run_less a b _ _ (t + n) r (omega arith) (run_more a b _ _ t n so.run further));
          ends = λ q.
              let x : r ≡ t + n = omega arith in
              let p : 2 * (at₁ + t / 2) + odd₁ + n ≡ 2 * (y.bases + i / 2) + i % 2 + (t + n) = omega (arith, so.even) in
              let o : 2 * (at₂ + t / 2) + odd₂ + n ≡ 2 * (z.bases + j / 2) + j % 2 + (t + n) = omega (arith, so.even) in
              let here₁ : half_of v n ≡ base_at a y (i + (t + n)) = h.code n l ∙ (ap (code_at a) p ∙ base_code a y i (t + n)) in
              let here₂ : half_of w n ≡ base_at b z (j + (t + n)) = k.code n l ∙ (ap (code_at b) o ∙ base_code b z j (t + n)) in
              rw (x, ← here₁, ← here₂) (f.ends l);
        }

  pub scan_end : (t m : ℕ) → m ≤ t → Scanned a b (2 * at₁ + odd₁) (2 * at₂ + odd₂) t → Agreeing a b y z i j m m
  scan_end t m l so = record { most = omega arith; alike = alike_run m (run_less a b _ _ t m l so.run); ends = λ q. absurd (omega arith) }
