-- Laws of numbers of several bytes, each proved once over the width: what is read, and what is stored. Assumes nothing.
use mathlib.Core.Path.{◌≡◌, refl, ◌∙◌}
use mathlib.Core.List.{List, ◌++◌}
use Prim.Native.Nat.{ℕ, zero, suc, ◌+◌, ◌*◌, ◌^◌, ◌<◌, ◌≤◌, ◌%◌, ◌/◌}
use native.Mathlib.Nat.{add-zero, zero-add, suc-add, mul_assoc, pow-succ', pow-zero}
use native.Mathlib.Omega.{arith}
use lib.ListN.{get_or, set, length, length-set}
use lib.Seq.{get_or-set_other, get_or-set_same, get_or-append-add}
use Rattle.fields.specs.Number.{unsigned, put}

-- v + w bytes hold what the first v bytes hold, and above it what the next w bytes hold
pub le_add : (v w : ℕ) (s : List ℕ) (at : ℕ) → unsigned (v + w) s at ≡ unsigned v s at + 256 ^ v * unsigned w s (at + v)
unfolding unsigned
le_add zero w s at = rw (zero-add w, add-zero at, pow-zero) (omega arith)
le_add (suc v) w s at =
    let e : at + suc v ≡ at + 1 + v = omega arith in
    rw (suc-add, e, pow-succ', mul_assoc) (omega (arith, le_add v w s (at + 1)))

-- w bytes hold a number below 256 ^ w
pub le_lt : (w : ℕ) (s : List ℕ) (at : ℕ) → ((k : ℕ) → get_or s k 0 < 256) → unsigned w s at < 256 ^ w
unfolding unsigned
le_lt zero s at h = rw pow-zero (omega arith)
le_lt (suc w) s at h = rw pow-succ' (omega (arith, h at, le_lt w s (at + 1) h))

-- the same bytes hold the same number
pub le_same : (w : ℕ) (a b : List ℕ) (at : ℕ) → ((k : ℕ) → at ≤ k → k < at + w → get_or a k 0 ≡ get_or b k 0) → unsigned w a at ≡ unsigned w b at
unfolding unsigned
le_same zero a b at h = refl
le_same (suc w) a b at h =
    rw (h at (omega arith) (omega arith), le_same w a b (at + 1) (λ k l u. h k (omega arith) (omega arith)))

-- a number that stands behind other bytes is read there
pub le_behind : (w : ℕ) (s t : List ℕ) (at : ℕ) → unsigned w (s ++ t) (length s + at) ≡ unsigned w t at
unfolding unsigned
le_behind zero s t at = refl
le_behind (suc w) s t at =
    let a : length s + at + 1 ≡ length s + (at + 1) = omega arith in
    rw (a, get_or-append-add s t at 0, le_behind w s t (at + 1))

-- a store keeps the length
pub length_put : (w : ℕ) (s : List ℕ) (at v : ℕ) → length (put w s at v) ≡ length s
unfolding put
length_put zero s at v = refl
length_put (suc w) s at v = length_put w (set s at (v % 256)) (at + 1) (v / 256) ∙ length-set s at (v % 256)

-- and the bytes before it
pub put_before : (w : ℕ) (s : List ℕ) (at v k : ℕ) → k < at → get_or (put w s at v) k 0 ≡ get_or s k 0
unfolding put
put_before zero s at v k h = refl
put_before (suc w) s at v k h =
    put_before w (set s at (v % 256)) (at + 1) (v / 256) k (omega arith) ∙ get_or-set_other s at k (v % 256) 0 (λ e. omega arith)

-- and those after it
pub put_after : (w : ℕ) (s : List ℕ) (at v k : ℕ) → at + w ≤ k → get_or (put w s at v) k 0 ≡ get_or s k 0
unfolding put
put_after zero s at v k h = refl
put_after (suc w) s at v k h =
    put_after w (set s at (v % 256)) (at + 1) (v / 256) k (omega arith) ∙ get_or-set_other s at k (v % 256) 0 (λ e. omega arith)

-- what was stored is read
pub le_put : (w : ℕ) (s : List ℕ) (at v : ℕ) → at + w ≤ length s → v < 256 ^ w → unsigned w (put w s at v) at ≡ v
unfolding unsigned put
le_put zero s at v h l = let z : v < 1 = rw pow-zero at l in omega arith
le_put (suc w) s at v h l =
    let m : v < 256 * 256 ^ w = rw pow-succ' at l in
    let s' : List ℕ = set s at (v % 256) in
    let p : v / 256 < 256 ^ w = omega arith in
    let q : at + 1 + w ≤ length s' = rw (length-set s at (v % 256)) (omega arith) in
    let r : get_or (put w s' (at + 1) (v / 256)) at 0 ≡ v % 256 =
    put_before w s' (at + 1) (v / 256) at (omega arith) ∙ get_or-set_same s at (v % 256) 0 (omega arith) in
    omega (arith, r, le_put w s' (at + 1) (v / 256) q p)
