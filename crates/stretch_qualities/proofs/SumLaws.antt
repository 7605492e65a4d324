-- Sums over lanes.
use Prim.Native.Nat.{ℕ, zero, suc, ◌+◌, ◌-◌, ◌≤◌, ◌<◌}
use mathlib.Core.Path.{◌≡◌, refl, ap}
use native.Mathlib.Omega.{arith}
use Rattle.stretch_qualities.specs.Blocks.{sum_of}

sum_none : (f : ℕ → ℕ) (t m : ℕ) → ((u : ℕ) → t ≤ u → u < t + m → f u ≡ 0) → sum_of f t m ≡ 0
unfolding sum_of
sum_none f t zero h = refl
sum_none f t (suc m) h =
    let e = h t (omega arith) (omega arith) in
    let r = sum_none f (suc t) m (λ u p q. h u (omega arith) (omega arith)) in
    omega arith

sum_split : (f : ℕ → ℕ) (t m k : ℕ) → sum_of f t (m + k) ≡ sum_of f t m + sum_of f (t + m) k
unfolding sum_of
sum_split f t zero k =
    let e : t + 0 ≡ t = omega arith in
    let e2 : 0 + k ≡ k = omega arith in
    rw (e, e2) (omega arith)
sum_split f t (suc m) k =
    let e : suc m + k ≡ suc (m + k) = omega arith in
    let e2 : t + suc m ≡ suc t + m = omega arith in
    rw (e, e2) (omega (arith, sum_split f (suc t) m k))

-- the first d lanes may be left out, where they count nothing
pub sum_rest : (f : ℕ → ℕ) (d : ℕ) → d ≤ 32 → ((u : ℕ) → u < d → f u ≡ 0) → sum_of f 0 32 ≡ sum_of f d (32 - d)
sum_rest f d h z =
    let e : sum_of f 0 32 ≡ sum_of f 0 (d + (32 - d)) = ap (sum_of f 0) (omega arith) in
    let e2 : sum_of f (0 + d) (32 - d) ≡ sum_of f d (32 - d) = ap (λ (k : ℕ). sum_of f k (32 - d)) (omega arith) in
    omega (arith, sum_split f 0 d (32 - d), sum_none f 0 d (λ u p q. z u (omega arith)))

pub sum_turn : (f : ℕ → ℕ) (t s v : ℕ) → s ≡ sum_of f 0 t → v ≡ f t → s + v ≡ sum_of f 0 (t + 1)
unfolding sum_of
sum_turn f t s v e r =
    let e0 : 0 + t ≡ t = omega arith in
    let q : sum_of f 0 (t + 1) ≡ sum_of f 0 t + (f t + 0) = rw e0 at (sum_split f 0 t 1) in
    omega arith
