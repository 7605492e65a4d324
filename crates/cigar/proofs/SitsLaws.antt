-- The document's sentence and the function agree; a base sits at one position, and a position has at most one base.
use Prim.Native.Nat.{ℕ, ◌+◌, ◌-◌, ◌≤◌, ◌<◌}
use mathlib.Core.Path.{◌≡◌, refl, sym, ap, ◌∙◌}
use mathlib.Core.List.{List, [], ◌∷◌, ◌++◌}
use mathlib.Core.Option.{Option, none, some}
use mathlib.Core.Logic.{◌⊎◌, inl, inr, ⊎_elim}
use mathlib.Core.Bool.{Bool, true, false, cond}
use native.Mathlib.Omega.{arith}
use lib.Dec.{ltb}
use borrow.Author.Tests.{lt-ltb, ltb-true}
use Rattle.fields.specs.declared.RefPos.{RefPos}
use Rattle.fields.specs.declared.ReadOffset.{ReadOffset}
use Rattle.cigar.specs.Operation.{Kind, Both, Reference, Read, Neither, Unknown, kind, len, read_len, ref_len, read_of, ref_of, read_sum, ref_sum}
use Rattle.cigar.specs.Place.{Sits}
use Rattle.cigar.specs.Found.{op_at, off_at, of_bases, base_on}
use Rattle.fields.proofs.Arith.{lt_or_le}
use Rattle.cigar.proofs.PlaceLaws.{run_below, run_in, run_past}

-- an operation that is passed: positions past it are left to what follows
pub op_past : (k : Kind) (n q r p : ℕ) (x : Option ℕ) → r + ref_of k n ≤ p → op_at k n q r p x ≡ x
op_past Both n q r p x h = run_past n q r p x h
op_past Reference n q r p x h = refl
op_past Read n q r p x h = refl
op_past Neither n q r p x h = refl
op_past Unknown n q r p x h = refl

-- every base that sits is found
found : (before : List ℕ) (op : ℕ) (after : List ℕ) (q r k : ℕ) → kind op ≡ Both → k < len op
    → off_at (before ++ op ∷ after) q r (r + ref_sum before + k) ≡ some (q + read_sum before + k)
unfolding off_at read_sum ref_sum
found [] op after q r k a h =
    rw a (run_in (len op) q r (r + 0 + k) _ (omega arith) (omega arith) ∙ ap some (omega arith))
found (w ∷ ws) op after q r k a h =
    let e : r + (ref_len w + ref_sum ws) + k ≡ (r + ref_len w) + ref_sum ws + k = omega arith in
    rw e
    (op_past (kind w) (len w) q r _ _ (omega arith)
    ∙ (found ws op after (q + read_len w) (r + ref_len w) k a h ∙ ap some (omega arith)))

pub of_bases_lem : (count i : ℕ) → i < count → of_bases count (some i) ≡ some i
of_bases_lem count i h = rw (lt-ltb i count h)

pub bases_of : (count i : ℕ) (x : Option ℕ) → of_bases count x ≡ some i → (x ≡ some i) × (i < count)
bases_of count i none e = let z : ◌≡◌ {A = ℕ} 0 1 = cc in absurd (omega arith)
bases_of count i (some j) e = go (ltb j count) refl e
  where
    go : (t : Bool) → ltb j count ≡ t → cond t (some j) none ≡ some i → (some j ≡ some i) × (i < count)
    go true f g = (g, (let q : j ≡ i = cc in omega (arith, ltb-true j count f)))
    go false f g = let z : ◌≡◌ {A = ℕ} 0 1 = cc in absurd (omega arith)

pub sits_off : {count : ℕ} {ops : List ℕ} {r p : RefPos} {i : ReadOffset} → Sits count ops r i p → off_at ops 0 r.0 p.0 ≡ some i.0
sits_off {count} {ops} {r} {p} {i} s =
    ap (λ (l : List ℕ). off_at l 0 r.0 p.0) s.split
    ∙ (ap (λ (x : ℕ). off_at (s.before ++ s.op ∷ s.after) 0 r.0 x) s.place
    ∙ (found s.before s.op s.after 0 r.0 s.k s.aligned s.below ∙ ap some (omega (arith, s.read))))

-- the computed base is the one that sits
pub sits_found : {count : ℕ} {ops : List ℕ} {r p : RefPos} {i : ReadOffset} → Sits count ops r i p → base_on count ops r.0 p.0 ≡ some i.0
sits_found {count} {ops} {r} {p} {i} s = ap (of_bases count) (sits_off s) ∙ of_bases_lem count i.0 s.base

-- what is found sits: at an operation of this kind, or in what follows
pub record Here (k : Kind) (n q r p : ℕ) (i : ℕ) : Type 0 where
  pub aligned : k ≡ Both
  pub low : r ≤ p
  pub below : p < r + n
  pub read : i ≡ q + (p - r)

op_cases : (k : Kind) (n q r p i : ℕ) (x : Option ℕ) → op_at k n q r p x ≡ some i → Here k n q r p i ⊎ (x ≡ some i)
op_cases Both n q r p i x e =
    ⊎_elim (λ h. inr (sym (run_below n q r p x h) ∙ e))
    (λ h. ⊎_elim (λ l. inl (record { aligned = refl; low = h; below = l; read = (cc (run_in n q r p x h l)) }))
    (λ l. inr (sym (run_past n q r p x l) ∙ e))
    (lt_or_le p (r + n)))
    (lt_or_le p r)
op_cases Reference n q r p i x e = inr e
op_cases Read n q r p i x e = inr e
op_cases Neither n q r p i x e = inr e
op_cases Unknown n q r p i x e = inr e

-- the same sentence, with the operations begun at read offset q
record From (ops : List ℕ) (q r i p : ℕ) : Type 0 where
  before : List ℕ
  op : ℕ
  after : List ℕ
  split : ops ≡ before ++ op ∷ after
  aligned : kind op ≡ Both
  k : ℕ
  below : k < len op
  read : i ≡ q + read_sum before + k
  place : p ≡ r + ref_sum before + k

from_here_lem : (w : ℕ) (ws : List ℕ) (q r i p : ℕ) → Here (kind w) (len w) q r p i → From (w ∷ ws) q r i p
unfolding read_sum ref_sum
from_here_lem w ws q r i p h =
    record { before = []; op = w; after = ws; split = refl; aligned = h.aligned; k = p - r; below = omega arith; read = omega arith; place = omega arith }

from_later : (w : ℕ) (ws : List ℕ) (q r i p : ℕ) → From ws (q + read_len w) (r + ref_len w) i p → From (w ∷ ws) q r i p
unfolding read_sum ref_sum
from_later w ws q r i p h =
    record { before = w ∷ h.before; op = h.op; after = h.after; split = ap (λ (l : List ℕ). w ∷ l) h.split; aligned = h.aligned; k = h.k; below = h.below; read = omega (arith, h.read); place = omega (arith, h.place) }

found_from : (ops : List ℕ) (q r i p : ℕ) → off_at ops q r p ≡ some i → From ops q r i p
unfolding off_at
found_from [] q r i p e = let z : ◌≡◌ {A = ℕ} 0 1 = cc in absurd (omega arith)
found_from (w ∷ ws) q r i p e =
    ⊎_elim (λ h. from_here_lem w ws q r i p h)
    (λ h. from_later w ws q r i p (found_from ws (q + read_len w) (r + ref_len w) i p h))
    (op_cases (kind w) (len w) q r p i _ e)

abbrev pub on_ref : ℕ → RefPos
on_ref p = record { 0 = p }

abbrev pub in_read : ℕ → ReadOffset
in_read i = record { 0 = i }

pub found_sits : (count : ℕ) (ops : List ℕ) (r i p : ℕ) → base_on count ops r p ≡ some i → Sits count ops (on_ref r) (in_read i) (on_ref p)
found_sits count ops r i p e =
    let b = bases_of count i (off_at ops 0 r p) e in
    let f = found_from ops 0 r i p b.0 in
    record { base = b.1; before = f.before; op = f.op; after = f.after; split = f.split; aligned = f.aligned; k = f.k; below = f.below; read = omega (arith, f.read); place = f.place }

-- a position has at most one base
pub one_base : {count : ℕ} {ops : List ℕ} {r p : RefPos} {i j : ReadOffset} → Sits count ops r i p → Sits count ops r j p → i.0 ≡ j.0
one_base s t = cc (sits_off s, sits_off t)

-- later positions have later bases
off_low : (ops : List ℕ) (q r i p : ℕ) → off_at ops q r p ≡ some i → (q ≤ i) × (r ≤ p)
off_low ops q r i p e = let f = found_from ops q r i p e in (omega (arith, f.read), omega (arith, f.place))

pub op_read : (k : Kind) (n : ℕ) → k ≡ Both → read_of k n ≡ n
op_read k n e = rw e

pub op_ref : (k : Kind) (n : ℕ) → k ≡ Both → ref_of k n ≡ n
op_ref k n e = rw e

pub off_mono : (ops : List ℕ) (q r i j p s : ℕ) → off_at ops q r p ≡ some i → off_at ops q r s ≡ some j → p < s → i < j
unfolding off_at
off_mono [] q r i j p s e f h = let z : ◌≡◌ {A = ℕ} 0 1 = cc in absurd (omega arith)
off_mono (w ∷ ws) q r i j p s e f h =
    ⊎_elim
    (λ a. ⊎_elim (λ b. omega (arith, a.read, b.read))
    (λ b. omega (arith, a.read, (off_low ws (q + read_len w) (r + ref_len w) j s b).0, op_read (kind w) (len w) a.aligned, a.below))
    (op_cases (kind w) (len w) q r s j _ f))
    (λ a. ⊎_elim
    (λ b. absurd (omega (arith, b.below, (off_low ws (q + read_len w) (r + ref_len w) i p a).1, op_ref (kind w) (len w) b.aligned)))
    (λ b. off_mono ws (q + read_len w) (r + ref_len w) i j p s a b h)
    (op_cases (kind w) (len w) q r s j _ f))
    (op_cases (kind w) (len w) q r p i _ e)

-- a base sits at one position
pub one_place : {count : ℕ} {ops : List ℕ} {r p s : RefPos} {i : ReadOffset} → Sits count ops r i p → Sits count ops r i s → p.0 ≡ s.0
one_place {count} {ops} {r} {p} {s} {i} a b =
    ⊎_elim (λ h. absurd (omega (arith, off_mono ops 0 r.0 i.0 i.0 p.0 s.0 (sits_off a) (sits_off b) h)))
    (λ h. ⊎_elim (λ k. absurd (omega (arith, off_mono ops 0 r.0 i.0 i.0 s.0 p.0 (sits_off b) (sits_off a) k))) (λ k. omega arith) (lt_or_le s.0 p.0))
    (lt_or_le p.0 s.0)

-- what operations end to end use
pub read_append : (l m : List ℕ) → read_sum (l ++ m) ≡ read_sum l + read_sum m
unfolding read_sum
read_append [] m = omega arith
read_append (w ∷ ws) m = omega (arith, read_append ws m)

pub ref_append : (l m : List ℕ) → ref_sum (l ++ m) ≡ ref_sum l + ref_sum m
unfolding ref_sum
ref_append [] m = omega arith
ref_append (w ∷ ws) m = omega (arith, ref_append ws m)

-- what is found is within the read and the span
pub off_within : (ops : List ℕ) (r i p : ℕ) → off_at ops 0 r p ≡ some i → (i < read_sum ops) × (r ≤ p) × (p < r + ref_sum ops)
unfolding read_sum ref_sum
off_within ops r i p e =
    let s = found_from ops 0 r i p e in
    let a = op_read (kind s.op) (len s.op) s.aligned in
    let b = op_ref (kind s.op) (len s.op) s.aligned in
    let c = ap read_sum s.split ∙ read_append s.before (s.op ∷ s.after) in
    let d = ap ref_sum s.split ∙ ref_append s.before (s.op ∷ s.after) in
    (omega (arith, a, c, s.below, s.read), omega (arith, s.place), omega (arith, b, d, s.below, s.place))

-- where the operations use no more than the read has, every base that they place is there
pub base_off : (count : ℕ) (ops : List ℕ) (r p : ℕ) → read_sum ops ≤ count → base_on count ops r p ≡ off_at ops 0 r p
base_off count ops r p h = go (off_at ops 0 r p) refl
  where
    go : (x : Option ℕ) → off_at ops 0 r p ≡ x → of_bases count x ≡ x
    go none e = refl
    go (some i) e = of_bases_lem count i (omega (arith, (off_within ops r i p e).0))
