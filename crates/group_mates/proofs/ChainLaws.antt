-- Passing along a chain misses no record that fits.
use Prim.Native.Nat.{ℕ, zero, suc, ◌+◌, ◌-◌, ◌/◌, ◌%◌, ◌<◌, ◌≤◌}
use mathlib.Core.Path.{◌≡◌, refl, sym, ◌∙◌, ap, ap₂}
use mathlib.Core.List.{List}
use mathlib.Core.Bool.{Bool, true, false, cond, ◌&&◌}
use mathlib.Core.Logic.{⊎_elim}
use native.Mathlib.Numerals.{add-one}
use native.Mathlib.Nat.{lt_irrefl}
use native.Mathlib.Omega.{arith}
use borrow.Author.Tests.{eqb-true, eqb-false, eq-eqb}
use borrow.Author.Count.{below_more, below_none}
use lib.Dec.{eqb}
use lib.ListN.{length, get_or, set, length-set}
use lib.Seq.{get_or-set_same, get_or-set_other}
use Rattle.fields.specs.Layout.{name_in}
use Rattle.fields.proofs.Arith.{lt_or_le}
use Rattle.group_frames.specs.Frame.{record_of}
use Rattle.group_mates.specs.Register.{role_in, role_at, name_at, fits, holder}
use Rattle.group_mates.specs.Table.{key_in, Keyed, chain_of, last_in, Chained}
use Rattle.group_mates.proofs.KeyLaws.{role_small, holder_no}
use Rattle.group_names.specs.Same.{same_bytes}
use Rattle.group_names.specs.Digest.{digest_of}
use Rattle.group_names.proofs.NameLaws.{and_true, same_true, same_refl}

pub last_le : (key : List ℕ) (h n : ℕ) → last_in key h n ≤ n
unfolding last_in
last_le key h zero = omega arith
last_le key h (suc n) = go (last_le key h n) (eqb (chain_of (get_or key n 0)) h)
  where
    go : last_in key h n ≤ n → (t : Bool) → cond t (suc n) (last_in key h n) ≤ suc n
    go up true = omega arith
    go up false = omega arith

-- what the last of a chain is of
pub last_of : (key : List ℕ) (h n j : ℕ) → last_in key h n ≡ suc j → chain_of (get_or key j 0) ≡ h
unfolding last_in
last_of key h zero j e = absurd (omega arith)
last_of key h (suc n) j e = go (last_of key h n j) (eqb (chain_of (get_or key n 0)) h) refl e
  where
    go : (last_in key h n ≡ suc j → chain_of (get_or key j 0) ≡ h) → (t : Bool) → eqb (chain_of (get_or key n 0)) h ≡ t → cond t (suc n) (last_in key h n) ≡ suc j → chain_of (get_or key j 0) ≡ h
    go up true f g = let z : j ≡ n = omega arith in ap (λ (k : ℕ). chain_of (get_or key k 0)) z ∙ eqb-true _ _ f
    go up false f g = up g

-- a record's chain has a record at it or behind it
pub last_past : (key : List ℕ) (i n : ℕ) → i < n → i < last_in key (chain_of (get_or key i 0)) n
unfolding last_in
last_past key i zero l = absurd (omega arith)
last_past key i (suc n) l = go (last_past key i n) (eqb (chain_of (get_or key n 0)) (chain_of (get_or key i 0))) refl
  where
    go : (i < n → i < last_in key (chain_of (get_or key i 0)) n) → (t : Bool) → eqb (chain_of (get_or key n 0)) (chain_of (get_or key i 0)) ≡ t → i < cond t (suc n) (last_in key (chain_of (get_or key i 0)) n)
    go up true f = l
    go up false f =
        ⊎_elim up
        (λ (g : n ≤ i). let z : n ≡ i = omega arith in absurd (eqb-false _ _ f (ap (λ (k : ℕ). chain_of (get_or key k 0)) z)))
        (lt_or_le i n)

-- records that fit are of one chain
pub fits_chain : (x y : List ℕ) (kx ky q : ℕ) → kx ≡ key_in x → ky ≡ key_in y → (eqb (role_in x) q && same_bytes (name_in x) (name_in y)) ≡ true → chain_of kx ≡ chain_of ky
unfolding key_in
fits_chain x y kx ky q ex ey t =
    let p = and_true (eqb (role_in x) q) (same_bytes (name_in x) (name_in y)) t in
    let e : kx / 4 ≡ ky / 4 = omega (arith, ex, ey, role_small x, role_small y, ap digest_of (same_true (name_in x) (name_in y) p.1)) in
    ap (λ (z : ℕ). z / 268435456 % 256) e

module _ (s key : List ℕ) (n : ℕ) (u : Keyed s key n) (q i : ℕ) (below : i < n) where
  abbrev h : ℕ
  h = chain_of (get_or key i 0)

  pub passed : (m : ℕ) → m ≤ n → holder (role_at s) (name_at s) q (name_at s i) (last_in key (chain_of (get_or key i 0)) m) ≡ holder (role_at s) (name_at s) q (name_at s i) m
  unfolding last_in holder
  passed zero l = refl
  passed (suc m) l = go (passed m (omega arith)) (eqb (chain_of (get_or key m 0)) h) refl
    where
      not_it : (v : Bool) → fits (role_at s) (name_at s) q (name_at s i) m ≡ v → eqb (chain_of (get_or key m 0)) h ≡ false → v ≡ false
      not_it true f e = absurd (eqb-false (chain_of (get_or key m 0)) h e (fits_chain (record_of s m) (record_of s i) (get_or key m 0) (get_or key i 0) q (u.keys m (omega arith)) (u.keys i below) f))
      not_it false f e = refl

      go : holder (role_at s) (name_at s) q (name_at s i) (last_in key h m) ≡ holder (role_at s) (name_at s) q (name_at s i) m → (t : Bool) → eqb (chain_of (get_or key m 0)) h ≡ t
          → holder (role_at s) (name_at s) q (name_at s i) (cond t (suc m) (last_in key h m)) ≡ holder (role_at s) (name_at s) q (name_at s i) (suc m)
      go up true e = refl
      go up false e = up ∙ ap (λ (t : Bool). cond t (suc m) (holder (role_at s) (name_at s) q (name_at s i) m)) (sym (not_it (fits (role_at s) (name_at s) q (name_at s i) m) refl e))

-- a list with one entry changed
set_at : (l : List ℕ) (h j v : ℕ) → h < length l → get_or (set l h v) j 0 ≡ cond (eqb h j) v (get_or l j 0)
set_at l h j v b = go (eqb h j) refl
  where
    go : (t : Bool) → eqb h j ≡ t → get_or (set l h v) j 0 ≡ cond t v (get_or l j 0)
    go true f = ap (λ (w : ℕ). get_or (set l h v) w 0) (sym (eqb-true h j f)) ∙ get_or-set_same l h v 0 b
    go false f = get_or-set_other l h j v 0 (λ w. eqb-false h j f (sym w))

-- the chains of the first k records are empty
pub record Cleared (key head : List ℕ) (k : ℕ) : Type 0 where
  pub wide : 256 ≤ length head
  pub empty : (j : ℕ) → j < k → get_or head (chain_of (get_or key j 0)) 0 ≡ 0

pub cleared_start : (key head : List ℕ) → 256 ≤ length head → Cleared key head 0
cleared_start key head l = record { wide = l; empty = below_none _ }

pub cleared_next : (key head : List ℕ) (k h : ℕ) → Cleared key head k → h ≡ chain_of (get_or key k 0) → h < 256 → Cleared key (set head h 0) (k + 1)
cleared_next key head k h c e b = record {
  wide = rw length-set c.wide;
  empty = below_more _ k
      (λ j l. set_at head h (chain_of (get_or key j 0)) 0 (omega (arith, c.wide)) ∙ still (eqb h (chain_of (get_or key j 0))) _ (c.empty j l))
      (ap (λ (z : ℕ). get_or (set head h 0) z 0) (sym e) ∙ get_or-set_same head h 0 0 (omega (arith, c.wide)));
}
  where
    still : (t : Bool) (v : ℕ) → v ≡ 0 → cond t 0 v ≡ 0
    still true v z = refl
    still false v z = z

-- of n records the first k are linked
pub record Linked (key head next : List ℕ) (n k : ℕ) : Type 0 where
  pub wide : 256 ≤ length head
  pub long : 256 ≤ length next
  pub heads : (j : ℕ) → j < n → get_or head (chain_of (get_or key j 0)) 0 ≡ last_in key (chain_of (get_or key j 0)) k
  pub links : (j : ℕ) → j < k → get_or next j 0 ≡ last_in key (chain_of (get_or key j 0)) j

pub linked_start : (key head next : List ℕ) (n : ℕ) → 256 ≤ length head → 256 ≤ length next → ((j : ℕ) → j < n → get_or head (chain_of (get_or key j 0)) 0 ≡ 0) → Linked key head next n 0
unfolding last_in
linked_start key head next n l m z = record { wide = l; long = m; heads = z; links = below_none _ }

pub linked_next : (key head next : List ℕ) (n k h : ℕ) → Linked key head next n k → k < n → k < 256 → h ≡ chain_of (get_or key k 0) → h < 256 → Linked key (set head h (k + 1)) (set next k (get_or head h 0)) n (k + 1)
unfolding last_in
linked_next key head next n k h c l r e b = record {
  wide = rw length-set c.wide;
  long = rw length-set c.long;
  heads = λ j m. rw add-one (set_at head h (chain_of (get_or key j 0)) (suc k) (omega (arith, c.wide)) ∙ ap₂ (λ (z v : ℕ). cond (eqb z (chain_of (get_or key j 0))) (suc k) v) e (c.heads j m));
  links = below_more _ k
      (λ j m. get_or-set_other next k j (get_or head h 0) 0 (λ w. lt_irrefl k (rw w at m)) ∙ c.links j m)
      (get_or-set_same next k (get_or head h 0) 0 (omega (arith, c.long)) ∙ ap (λ (z : ℕ). get_or head z 0) e ∙ c.heads k l);
}

pub linked_all : (key head next : List ℕ) (n k : ℕ) → Linked key head next n k → k ≡ n → Chained key head next n
linked_all key head next n k c e = let d = rw e at c in record { wide = d.wide; long = d.long; heads = d.heads; links = d.links }

-- where the search for role q and the name of record i may end: who has the registration is there or behind, and no step leads past it
pub record Ending (s key : List ℕ) (q i end : ℕ) : Type 0 where
  pub own : holder (role_at s) (name_at s) q (name_at s i) end ≡ end
  pub met : (m : ℕ) → end ≤ m → end ≤ last_in key (chain_of (get_or key i 0)) m

-- at the end of the chain
pub ending_none : (s key : List ℕ) (q i : ℕ) → Ending s key q i 0
unfolding holder
ending_none s key q i = record { own = refl; met = λ m l. omega arith }

-- at record i itself, where that is of the role
pub ending_own : (s key : List ℕ) (q i : ℕ) → role_at s i ≡ q → Ending s key q i (i + 1)
unfolding holder
ending_own s key q i e =
    let f : fits (role_at s) (name_at s) q (name_at s i) i ≡ true = rw (eq-eqb (role_at s i) q e) (same_refl (name_at s i)) in
    record {
      own = rw add-one (ap (λ (t : Bool). cond t (suc i) (holder (role_at s) (name_at s) q (name_at s i) i)) f);
      met = λ m l. omega (arith, last_past key i m (omega arith));
    }

-- a search that came down to c, and is to end at `end`
pub record Walking (s key : List ℕ) (n q i end c : ℕ) : Type 0 where
  pub low : c ≤ n
  pub over : end ≤ c
  pub chain : (j : ℕ) → c ≡ suc j → chain_of (get_or key j 0) ≡ chain_of (get_or key i 0)
  pub left : holder (role_at s) (name_at s) q (name_at s i) c ≡ holder (role_at s) (name_at s) q (name_at s i) n

module _ (s key : List ℕ) (n : ℕ) (u : Keyed s key n) (q i : ℕ) (below : i < n) (end : ℕ) (ends : Ending s key q i end) where
  pub walking_start : (c : ℕ) → end ≤ n → c ≡ last_in key (chain_of (get_or key i 0)) n → Walking s key n q i end c
  walking_start c l e = record {
    low = omega (arith, e, last_le key (chain_of (get_or key i 0)) n);
    over = rw e (ends.met n l);
    chain = λ j f. last_of key (chain_of (get_or key i 0)) n j (sym e ∙ f);
    left = ap (holder (role_at s) (name_at s) q (name_at s i)) e ∙ passed s key n u q i below n (omega arith);
  }

  -- the search is over
  pub walking_end : (c : ℕ) → Walking s key n q i end c → c ≡ end → c ≡ holder (role_at s) (name_at s) q (name_at s i) n
  walking_end c w e = e ∙ sym ends.own ∙ ap (holder (role_at s) (name_at s) q (name_at s i)) (sym e) ∙ w.left

  module _ (c : ℕ) (w : Walking s key n q i end c) (some : c ≡ end → ⊥) where
    is_suc : c ≡ suc (c - 1)
    is_suc = omega (arith, w.over)

    pub walking_next : (r : Bool) (d : ℕ) → r ≡ fits (role_at s) (name_at s) q (name_at s i) (c - 1) → r ≡ false → d ≡ last_in key (chain_of (get_or key (c - 1) 0)) (c - 1) → Walking s key n q i end d
    walking_next r d e f g =
        let b : chain_of (get_or key (c - 1) 0) ≡ chain_of (get_or key i 0) = w.chain (c - 1) is_suc in
        let g' : d ≡ last_in key (chain_of (get_or key i 0)) (c - 1) = g ∙ ap (λ (z : ℕ). last_in key z (c - 1)) b in
        record {
          low = omega (arith, g, last_le key (chain_of (get_or key (c - 1) 0)) (c - 1), w.low);
          over = rw g' (ends.met (c - 1) (omega (arith, w.over)));
          chain = λ j h. last_of key (chain_of (get_or key i 0)) (c - 1) j (sym g' ∙ h);
          left = ap (holder (role_at s) (name_at s) q (name_at s i)) g'
              ∙ passed s key n u q i below (c - 1) (omega (arith, w.low))
              ∙ holder_no (role_at s) (name_at s) q (name_at s i) c (omega (arith, w.over)) r e f
              ∙ w.left;
        }
