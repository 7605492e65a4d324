-- One turn of the loop that fills the table of leads.
use Prim.Native.Nat.{ℕ, zero, suc, ◌+◌, ◌-◌, ◌<◌, ◌≤◌}
use mathlib.Core.Path.{◌≡◌, refl, sym, ◌∙◌, ap}
use mathlib.Core.List.{List, ◌++◌}
use mathlib.Core.Logic.{⊎_elim}
use native.Mathlib.Numerals.{add-one}
use native.Mathlib.Omega.{arith}
use lib.ListN.{length, get_or, set, take, drop, replicate, length-set, length-replicate, length-append, length-drop, get_or-replicate, get_or-append}
use lib.Seq.{get_or-take, get_or-set_same, get_or-set_other, length-take-le}
use Rattle.fields.proofs.Arith.{lt_or_le, eq_or_ne}
use Rattle.group_mates.specs.Register.{role_at, name_at}
use Rattle.group_mates.specs.Table.{Mated}
use Rattle.group_mates.proofs.OnceLaws.{mate_below, mate_inj}
use Rattle.filed_writing.specs.Lead.{Pairing, Led}

-- a number that is not 1 or more
pub none_of : (x : ℕ) → (1 ≤ x → ⊥) → x ≡ 0
none_of zero h = refl
none_of (suc x) h = absurd (h (omega arith))

-- no two records of a group have one mate
pub mated_pairing : (s mate : List ℕ) (n : ℕ) → n ≤ 256 → Mated s mate n → Pairing mate n
mated_pairing s mate n few m = record {
  few = few;
  wide = m.wide;
  below = λ i j h e. mate_below (role_at s) (name_at s) n i j (sym (m.mates i h) ∙ e);
  one = λ i k j h g e f. mate_inj (role_at s) (name_at s) n i k j (sym (m.mates i h) ∙ e) (sym (m.mates k g) ∙ f);
}

-- the table's first entries, one for each record
pub front_long : (mate : List ℕ) (n : ℕ) → Pairing mate n → length (take n mate) ≡ n
front_long mate n p = length-take-le n mate (omega (arith, p.few, p.wide))

pub front_mate : (mate : List ℕ) (n i : ℕ) → Pairing mate n → i < length (take n mate) → get_or (take n mate) i 0 ≡ get_or mate i 0
front_mate mate n i p h = get_or-take n mate i 0 (omega (arith, h, front_long mate n p))

-- a table whose first n entries were emptied
module _ (lead z : List ℕ) (n : ℕ) (fits : n ≤ length lead) (is : z ≡ replicate (length (take n lead)) 0) where
  empty_long : length z ≡ n
  empty_long = ap length is ∙ length-replicate {A = ℕ} (length (take n lead)) 0 ∙ length-take-le n lead fits

  pub empty_wide : length (z ++ drop n lead) ≡ length lead
  empty_wide = omega (arith, length-append z (drop n lead), empty_long, length-drop n lead)

  pub empty_first : (k : ℕ) → k < n → get_or (z ++ drop n lead) k 0 ≡ 0
  empty_first k h =
      get_or-append z (drop n lead) 0 k (omega (arith, empty_long)) ∙ ap (λ (x : List ℕ). get_or x k 0) is
      ∙ get_or-replicate (length (take n lead)) k 0 0 (omega (arith, length-take-le n lead fits))

-- the mates of the first i records are entered
pub record Leading (mate lead : List ℕ) (n i : ℕ) : Type 0 where
  pub wide : 256 ≤ length lead
  pub named : (k j : ℕ) → k < i → get_or mate k 0 ≡ suc j → get_or lead j 0 ≡ suc k
  pub only : (k j : ℕ) → j < n → get_or lead j 0 ≡ suc k → (k < i) × (get_or mate k 0 ≡ suc j)

pub leading_start : (mate lead : List ℕ) (n : ℕ) → 256 ≤ length lead → ((k : ℕ) → k < n → get_or lead k 0 ≡ 0) → Leading mate lead n 0
leading_start mate lead n h z = record {
  wide = h;
  named = λ k j l e. absurd (omega arith);
  only = λ k j b e. absurd (omega (arith, z j b));
}

pub leading_end : (mate lead : List ℕ) (n i : ℕ) → Leading mate lead n i → n ≤ i → i ≤ n → Led mate lead n
leading_end mate lead n i a h g = record {
  wide = a.wide;
  named = λ k j l e. a.named k j (omega arith) e;
  only = λ k j b e. let r = a.only k j b e in (omega (arith, r.0), r.1);
}

module _ (mate lead : List ℕ) (n i : ℕ) (a : Leading mate lead n i) where
  pub leading_alone : get_or mate i 0 ≡ 0 → Leading mate lead n (i + 1)
  leading_alone z = record {
    wide = a.wide;
    named = λ k j l e.
        ⊎_elim (λ (b : k < i). a.named k j b e)
        (λ (b : i ≤ k). let u : k ≡ i = omega arith in absurd (omega (arith, ap (λ (x : ℕ). get_or mate x 0) u)))
        (lt_or_le k i);
    only = λ k j b e. let r = a.only k j b e in (omega (arith, r.0), r.1);
  }

  module _ (p : Pairing mate n) (below : i < n) (some : get_or mate i 0 ≡ 0 → ⊥) where
    abbrev j₀ : ℕ
    j₀ = get_or mate i 0 - 1

    mate_is : get_or mate i 0 ≡ suc j₀
    mate_is = omega arith

    pub mate_in : get_or mate i 0 - 1 < n
    mate_in = p.below i j₀ below mate_is

    pub lead_in : get_or mate i 0 - 1 < length lead
    lead_in = omega (arith, mate_in, p.few, a.wide)

    next_named : (k j : ℕ) → k < i + 1 → get_or mate k 0 ≡ suc j → get_or (set lead j₀ (i + 1)) j 0 ≡ suc k
    next_named k j l e =
        ⊎_elim
        (λ (b : k < i).
        get_or-set_other lead j₀ j (i + 1) 0 (λ q. let u : i ≡ k = p.one i k j₀ below (omega arith) mate_is (e ∙ ap suc q) in omega arith) ∙ a.named k j b e)
        (λ (b : i ≤ k). let u : k ≡ i = omega arith in
        let v : j ≡ j₀ = omega (arith, ap (λ (x : ℕ). get_or mate x 0) u, mate_is, e) in
        ap (λ (x : ℕ). get_or (set lead j₀ (i + 1)) x 0) v ∙ get_or-set_same lead j₀ (i + 1) 0 lead_in ∙ add-one i ∙ ap suc (sym u))
        (lt_or_le k i)

    next_only : (k j : ℕ) → j < n → get_or (set lead j₀ (i + 1)) j 0 ≡ suc k → (k < i + 1) × (get_or mate k 0 ≡ suc j)
    next_only k j b e =
        ⊎_elim
        (λ (q : j ≡ j₀).
        let u : k ≡ i = omega (arith, sym e ∙ ap (λ (x : ℕ). get_or (set lead j₀ (i + 1)) x 0) q ∙ get_or-set_same lead j₀ (i + 1) 0 lead_in) in
        (omega arith, ap (λ (x : ℕ). get_or mate x 0) u ∙ mate_is ∙ ap suc (sym q)))
        (λ (q : j ≡ j₀ → ⊥).
        let r = a.only k j b (sym (get_or-set_other lead j₀ j (i + 1) 0 q) ∙ e) in
        (omega (arith, r.0), r.1))
        (eq_or_ne j j₀)

    pub leading_next : Leading mate (set lead (get_or mate i 0 - 1) (i + 1)) n (i + 1)
    leading_next = record { wide = rw length-set a.wide; named = next_named; only = next_only }
