-- One position written, beside a quality stored further on; and a base written on itself.
use Prim.Native.Nat.{ℕ, zero, suc, ◌+◌, ◌/◌, ◌%◌, ◌<◌}
use mathlib.Core.Path.{◌≡◌, ap, ◌∙◌}
use mathlib.Core.List.{List}
use mathlib.Core.Logic.{⊎_elim}
use native.Mathlib.Omega.{arith}
use lib.ListN.{length, get_or, set}
use lib.Seq.{get_or-set_same, get_or-set_other, set_comm, set-get_or}
use Rattle.fields.specs.declared.Layout.{Layout}
use Rattle.fields.proofs.Arith.{eq_or_ne}
use Rattle.bases.specs.Base.{half, base_at, quality_at}
use Rattle.bases.specs.Written.{with_half, with_base, with_seen}

-- ---- a quality stored further on does not meet the position
pub put_set : (l : List ℕ) (y : Layout) (i v x k u : ℕ) → y.bases + i / 2 < k → y.qualities + i < k → with_seen (set l k u) y i v x ≡ set (with_seen l y i v x) k u
unfolding with_seen with_base
put_set l y i v x k u h q =
    let m = y.bases + i / 2 in
    let n1 : k ≡ m → ⊥ = λ e. omega arith in
    let n2 : k ≡ y.qualities + i → ⊥ = λ e. omega arith in
    let n3 : m ≡ k → ⊥ = λ e. omega arith in
    let w = with_half (i % 2) (get_or l m 0) v in
    ap (λ (b : ℕ). set (set (set l k u) m (with_half (i % 2) b v)) (y.qualities + i) x) (get_or-set_other l k m u 0 n3)
    ∙ (ap (λ (r : List ℕ). set r (y.qualities + i) x) (set_comm l k m u w n1) ∙ set_comm (set l m w) k (y.qualities + i) u x n2)

pub base_set : (l : List ℕ) (y : Layout) (i k u : ℕ) → y.bases + i / 2 < k → base_at (set l k u) y i ≡ base_at l y i
base_set l y i k u h = ap (half (i % 2)) (get_or-set_other l k (y.bases + i / 2) u 0 (λ e. omega arith))

pub quality_set : (l : List ℕ) (y : Layout) (i k u : ℕ) → y.qualities + i < k → quality_at (set l k u) y i ≡ quality_at l y i
quality_set l y i k u h = get_or-set_other l k (y.qualities + i) u 0 (λ e. omega arith)

-- ---- what stands before the qualities are bytes, and stay bytes
abbrev pub Small : Layout → List ℕ → Type 0
Small y l = (k : ℕ) → k < y.qualities → get_or l k 0 < 256

pub set_small : (l : List ℕ) (y : Layout) (i x : ℕ) → Small y l → Small y (set l (y.qualities + i) x)
set_small l y i x h k q =
    let e : get_or (set l (y.qualities + i) x) k 0 ≡ get_or l k 0 = get_or-set_other l (y.qualities + i) k x 0 (λ p. omega arith) in
    omega (arith, h k q)

with_small : (n b v : ℕ) → b < 256 → v < 16 → with_half n b v < 256
with_small zero b v h q = omega arith
with_small (suc n) b v h q = omega arith

pub put_small : (l : List ℕ) (y : Layout) (i v x : ℕ) → y.bases + i / 2 < length l → y.bases + i / 2 < y.qualities → v < 16 → Small y l → Small y (with_seen l y i v x)
unfolding with_seen with_base
put_small l y i v x hl hm hv h =
    let m = y.bases + i / 2 in
    let w = with_half (i % 2) (get_or l m 0) v in
    set_small (set l m w) y i x
    (λ k q.
    ⊎_elim
    (λ p.
    let e : get_or (set l m w) k 0 ≡ w = ap (λ (r : ℕ). get_or (set l m w) r 0) p ∙ get_or-set_same l m w 0 hl in
    omega (arith, with_small (i % 2) (get_or l m 0) v (h m hm) hv))
    (λ p. let e : get_or (set l m w) k 0 ≡ get_or l k 0 = get_or-set_other l m k w 0 p in omega (arith, h k q))
    (eq_or_ne k m))

-- ---- a base written on itself changes nothing
with_own : (n b : ℕ) → b < 256 → with_half n b (half n b) ≡ b
with_own zero b h = omega arith
with_own (suc n) b h = omega arith

pub put_own : (l : List ℕ) (y : Layout) (i x : ℕ) → get_or l (y.bases + i / 2) 0 < 256 → with_seen l y i (base_at l y i) x ≡ set l (y.qualities + i) x
unfolding with_seen with_base
put_own l y i x h =
    let m = y.bases + i / 2 in
    ap (λ (b : ℕ). set (set l m b) (y.qualities + i) x) (with_own (i % 2) (get_or l m 0) h) ∙ ap (λ (r : List ℕ). set r (y.qualities + i) x) (set-get_or l m 0)
