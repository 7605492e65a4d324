-- Which pair record k is in, by the tables; which bytes are due at a record, and what it adds, by its pair.
use Rattle.std.specs.Prelude.{Option, Some, None}
use Prim.Native.Nat.{ℕ, zero, suc, ◌<◌, ◌≤◌}
use mathlib.Core.Path.{◌≡◌, refl, sym, ◌∙◌, ap, subst}
use mathlib.Core.List.{List}
use mathlib.Core.Logic.{inl, inr, ⊎_elim}
use native.Mathlib.Omega.{arith}
use lib.ListN.{length, get_or, take}
use Rattle.stats.specs.Counts.{zeroed}
use Rattle.strategy.specs.declared.Strategies.{Strategies}
use Rattle.group_frames.specs.Part.{part}
use Rattle.group_frames.specs.Frame.{begin_of, start_of, end_of, record_of}
use Rattle.group_mates.specs.Register.{mates_of, pairs_of}
use Rattle.group_mates.specs.Table.{Mated}
use Rattle.group_verdicts.specs.Indexed.{indexed_at}
use Rattle.group_verdicts.proofs.JudgeLaws.{mate_in}
use Rattle.group_verdicts.proofs.IndexLaws.{passed_cleared, all_passed}
use Rattle.group_applying.specs.declared.Applied.{Applied}
use Rattle.filed_writing.specs.declared.Mates.{Mates}
use Rattle.filed_writing.specs.Lead.{Led}
use Rattle.filed_writing.specs.Turn.{AllPassed, Paired, Turned, Stands}
use Rattle.filed_writing.specs.Written.{Copied, corrected, applied, added_by}
use Rattle.filed_writing.proofs.RecordLaws.{made, first_becomes, last_becomes, alone_stays}

some_same : (a b : Mates) → Some a ≡ Some b → a ≡ b
some_same a b e = cc

some_none : (a : Mates) → Some a ≡ None → ⊥
some_none a e = let z : ◌≡◌ {A = ℕ} 0 1 = cc in omega arith

abbrev pub mates : ℕ → ℕ → Mates
mates f l = record { first = f; last = l }

-- ---- the pair of record k, by its entries in the tables
module _ (s mate lead : List ℕ) (n k : ℕ) (below : k < n) (u : Mated s mate n) (v : Led mate lead n) (passed : AllPassed s n) where
  paired : (i j : ℕ) → i < n → j < n → mates_of s n i ≡ suc j → Paired s n (mates i j)
  paired i j h g m = record {
    first = h;
    last = g;
    mates = m;
    cleared = passed_cleared (record_of s i) (record_of s j) i j (all_passed (indexed_at s) (pairs_of s n) passed i j (made s n i j m));
  }

  pub turned_first : (l : ℕ) → get_or mate k 0 ≡ suc l → Turned s n k (Some (mates k l))
  turned_first l e =
      let m : mates_of s n k ≡ suc l = sym (u.mates k below) ∙ e in
      let h : l < n = omega (arith, mate_in s n k (get_or mate k 0) (u.mates k below) (λ z. omega arith)) in
      record {
        below = below;
        pair = λ p q. subst (Paired s n) (some_same (mates k l) p q) (paired k l below h m);
        member = λ p q. inl (ap (λ (x : Mates). x.first) (sym (some_same (mates k l) p q)));
        lead = λ j g. (mates k l, refl, refl);
        alone = λ q. absurd (some_none (mates k l) q);
      }

  module _ (none : get_or mate k 0 ≡ 0) where
    mateless_here : (j : ℕ) → mates_of s n k ≡ suc j → ⊥
    mateless_here j e = omega (arith, u.mates k below)

    pub turned_last : (f : ℕ) → get_or lead k 0 ≡ suc f → Turned s n k (Some (mates f k))
    turned_last f e =
        let o = v.only f k below e in
        record {
          below = below;
          pair = λ p q. subst (Paired s n) (some_same (mates f k) p q) (paired f k o.0 below (sym (u.mates f o.0) ∙ o.1));
          member = λ p q. inr (ap (λ (x : Mates). x.last) (sym (some_same (mates f k) p q)));
          lead = λ j g. absurd (mateless_here j g);
          alone = λ q. absurd (some_none (mates f k) q);
        }

    pub turned_alone : get_or lead k 0 ≡ 0 → Turned s n k None
    turned_alone z = record {
      below = below;
      pair = λ p q. absurd (some_none p (sym q));
      member = λ p q. absurd (some_none p (sym q));
      lead = λ j g. absurd (mateless_here j g);
      alone = λ e i h m. omega (arith, v.named i k h (u.mates i h ∙ m));
    }

-- ---- rooms in which a pair was treated
pub stands_treated : (w : Strategies) (s : List ℕ) (n : ℕ) (m : Mates) → Paired s n m → (left right : List ℕ) (r : Applied)
    → Copied w (record_of s m.first) (record_of s m.last) left right r → Stands w s n m.first left right r
stands_treated w s n m h left right r c = record {
  pair = λ j e. let l : m.last ≡ j = omega (arith, h.mates, e) in rw l at c;
}

-- and the pair that stands there
pub stands_copied : (w : Strategies) (s : List ℕ) (n f : ℕ) (m : Mates) → Paired s n m → f ≡ m.first → (left right : List ℕ) (r : Applied)
    → Stands w s n f left right r → Copied w (record_of s m.first) (record_of s m.last) left right r
stands_copied w s n f m h e left right r a = (rw e at a).pair m.last h.mates

-- ---- the bytes of record k, from the rooms or the group, and what it adds
module _ (w : Strategies) (s : List ℕ) (n : ℕ) (fit : begin_of s n ≤ length s) (k : ℕ) where
  module _ (p : Option Mates) (h : Turned s n k p) where
    -- a record that is the first of no pair has no mate, and adds nothing
    mateless : ((m : Mates) → p ≡ Some m → m.first ≡ k → ⊥) → 0 ≡ mates_of s n k
    mateless d = go (mates_of s n k) refl
      where
        go : (x : ℕ) → mates_of s n k ≡ x → 0 ≡ x
        go zero e = refl
        go (suc j) e = let l = h.lead j e in absurd (d l.0 l.1 l.2)

    module _ (e : p ≡ None) where
      none_first : (m : Mates) → p ≡ Some m → m.first ≡ k → ⊥
      none_first m q f = some_none m (sym q ∙ e)

      pub alone_due : record_of s k ≡ part (corrected w s n) (start_of s k) (end_of s k)
      alone_due = sym (alone_stays w s n fit k (sym (mateless none_first)) (h.alone e))

      pub alone_adds : (r : Applied) → r ≡ applied 0 0 zeroed → r ≡ added_by w s k (mates_of s n k)
      alone_adds r z = z ∙ ap (added_by w s k) (mateless none_first)

    module _ (m : Mates) (e : p ≡ Some m) (left right : List ℕ) (r : Applied) (c : Copied w (record_of s m.first) (record_of s m.last) left right r) where
      pub first_due : m.first ≡ k → take (length (record_of s k)) left ≡ part (corrected w s n) (start_of s k) (end_of s k)
      first_due q = rw q at (c.first ∙ sym (first_becomes w s n fit m.first m.last (h.pair m e).mates))

      pub first_adds : m.first ≡ k → r ≡ added_by w s k (mates_of s n k)
      first_adds q = rw q at (c.adds ∙ ap (added_by w s m.first) (sym (h.pair m e).mates))

      module _ (d : m.first ≡ k → ⊥) where
        other : (x : Mates) → p ≡ Some x → x.first ≡ k → ⊥
        other x q f = d (ap (λ (y : Mates). y.first) (some_same m x (sym e ∙ q)) ∙ f)

        pub last_due : take (length (record_of s k)) right ≡ part (corrected w s n) (start_of s k) (end_of s k)
        last_due =
            let l : m.last ≡ k = ⊎_elim (λ (x : m.first ≡ k). absurd (d x)) (λ (x : m.last ≡ k). x) (h.member m e) in
            rw l at (c.second ∙ sym (last_becomes w s n fit m.first m.last (h.pair m e).mates))

        pub last_adds : (x : Applied) → x ≡ applied 0 0 zeroed → x ≡ added_by w s k (mates_of s n k)
        last_adds x z = z ∙ ap (added_by w s k) (mateless other)
