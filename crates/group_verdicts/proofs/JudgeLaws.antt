-- A pair judged, by what the code finds; and one turn of the loop over the pairs.
use Rattle.std.specs.Prelude.{Result, Ok, Err, Option, None, Some}
use Rattle.std.specs.Option.{SomeIff}
use Rattle.pair_judgement.specs.declared.Reason.{Reason}
use Prim.Native.Nat.{ℕ, suc, ◌+◌, ◌-◌, ◌<◌, ◌≤◌}
use mathlib.Core.Path.{◌≡◌, refl, sym, ap, ap₂, ◌∙◌}
use mathlib.Core.List.{List, []}
use native.Mathlib.Numerals.{add-one}
use native.Mathlib.Omega.{arith}
use lib.ListN.{length, get_or, take}
use lib.Seq.{get_or-take, length-take-le}
use Rattle.refusal.specs.declared.Refusal.{Refusal}
use Rattle.fields.specs.declared.Layout.{Layout}
use Rattle.fields.specs.Layout.{layout_of}
use Rattle.fields.specs.Sound.{Sound}
use Rattle.fields.proofs.CheckLaws.{sound_good}
use Rattle.cigar.specs.declared.Extent.{Extent}
use Rattle.pair_judgement.specs.Judgement.{on_span, span_in}
use Rattle.pair_judgement.specs.Where.{where_of, on_where}
use Rattle.pair_judgement.proofs.JudgeLaws.{judged_as}
use Rattle.group_mates.specs.Register.{role_at, name_at, mates_of, mate_cons, pairs_from}
use Rattle.group_mates.specs.Table.{Mated}
use Rattle.group_mates.proofs.OnceLaws.{mate_below}
use Rattle.group_verdicts.specs.Judged.{on_verdict, judge_by}
use Rattle.group_verdicts.specs.Indexed.{of_judged, indexed_of}

-- ---- one pair, by what the code finds
module _ (a b : List ℕ) (i j : ℕ) (h : Sound a (layout_of a)) (l : Sound b (layout_of b)) where
  placed : (k : Result (ℕ × ℕ) Reason) → where_of a b ≡ k
      → of_judged (on_where k (λ p q. on_span (span_in (layout_of a) a p i) (λ s. on_span (span_in (layout_of b) b q j) (λ t. Ok (s, t))))) ≡ indexed_of a b i j
  unfolding indexed_of
  placed k f = ap of_judged (judged_as (layout_of a) (layout_of b) a b i j (where_of a b) refl k f) ∙ rw (sound_good a (layout_of a) h i, sound_good b (layout_of b) l j)

  -- on no one reference: nothing is refused
  pub apart_passes : (r : Reason) → where_of a b ≡ Err r → Ok tt ≡ indexed_of a b i j
  apart_passes r f = placed (Err r) f

  module _ (p : ℕ × ℕ) (f : where_of a b ≡ Ok p) where
    spans : (u v : Result Extent Refusal) → span_in (layout_of a) a p.0 i ≡ u → span_in (layout_of b) b p.1 j ≡ v
        → of_judged (on_span u (λ s. on_span v (λ t. Ok (s, t)))) ≡ indexed_of a b i j
    spans u v g k = ap₂ (λ (x y : Result Extent Refusal). of_judged (on_span x (λ s. on_span y (λ t. Ok (s, t))))) (sym g) (sym k) ∙ placed (Ok p) f

    module _ (y : Layout) (e : y ≡ layout_of a) where
      of_first : (u : Result Extent Refusal) → span_in y a p.0 i ≡ u → span_in (layout_of a) a p.0 i ≡ u
      of_first u g = ap (λ (x : Layout). span_in x a p.0 i) (sym e) ∙ g

      pub first_refused : (r : Refusal) → span_in y a p.0 i ≡ Err r → Err r ≡ indexed_of a b i j
      first_refused r g = spans (Err r) _ (of_first (Err r) g) refl

      module _ (s : Extent) (g : span_in y a p.0 i ≡ Ok s) (z : Layout) (d : z ≡ layout_of b) where
        of_second : (v : Result Extent Refusal) → span_in z b p.1 j ≡ v → span_in (layout_of b) b p.1 j ≡ v
        of_second v k = ap (λ (x : Layout). span_in x b p.1 j) (sym d) ∙ k

        pub second_refused : (r : Refusal) → span_in z b p.1 j ≡ Err r → Err r ≡ indexed_of a b i j
        second_refused r k = spans (Ok s) (Err r) (of_first (Ok s) g) (of_second (Err r) k)

        pub both_pass : (t : Extent) → span_in z b p.1 j ≡ Ok t → Ok tt ≡ indexed_of a b i j
        both_pass t k = spans (Ok s) (Ok t) (of_first (Ok s) g) (of_second (Ok t) k)

-- ---- the pairs from record i on, by the mate of record i
pub pairs_turn : (f : ℕ → ℕ) (n i m : ℕ) → i < n → m ≡ f i → pairs_from f i (n - i) ≡ mate_cons i m (pairs_from f (i + 1) (n - (i + 1)))
unfolding pairs_from
pairs_turn f n i m h e =
    let u : n - i ≡ suc (n - (i + 1)) = omega arith in
    ap (pairs_from f i) u ∙ ap (λ (z : ℕ). mate_cons i z (pairs_from f (suc i) (n - (i + 1)))) (sym e)
    ∙ ap (λ (z : ℕ). mate_cons i m (pairs_from f z (n - (i + 1)))) (sym (add-one i))

pub pairs_end : (f : ℕ → ℕ) (n i : ℕ) → n ≤ i → pairs_from f i (n - i) ≡ []
unfolding pairs_from
pairs_end f n i h = let z : n - i ≡ 0 = omega arith in ap (pairs_from f i) z

pub pairs_start : (f : ℕ → ℕ) (n : ℕ) → pairs_from f 0 (n - 0) ≡ pairs_from f 0 n
pairs_start f n = let z : n - 0 ≡ n = omega arith in ap (pairs_from f 0) z

-- ---- what an entry of the table of mates says: no mate, or that of index j
abbrev pub Entry : ℕ → ℕ → Type 0
Entry m j = (1 ≤ m) × (j ≡ m - 1)

pub none_of : (m : ℕ) (r : Option ℕ) → SomeIff r (1 ≤ m) (m - 1) → ((x : ℕ) → r ≡ Some x → ⊥) → m ≡ 0
none_of m None h k = omega (arith, h)
none_of m (Some x) h k = absurd (k x refl)

-- ---- the table's first entries, one for each record
pub front_long : (s mate : List ℕ) (n : ℕ) → n ≤ 256 → Mated s mate n → length (take n mate) ≡ n
front_long s mate n few m = length-take-le n mate (omega (arith, few, m.wide))

pub front_mate : (s mate : List ℕ) (n i : ℕ) → Mated s mate n → i < n → get_or (take n mate) i 0 ≡ mates_of s n i
front_mate s mate n i m h = get_or-take n mate i 0 h ∙ m.mates i h

-- a mate is a record of the group
pub entry_in : (s : List ℕ) (n i m j : ℕ) → m ≡ mates_of s n i → Entry m j → j < n
entry_in s n i m j e h =
    let u : m ≡ suc j = omega (arith, h.0, h.1) in
    mate_below (role_at s) (name_at s) n i j (sym e ∙ u)

pub mate_in : (s : List ℕ) (n i m : ℕ) → m ≡ mates_of s n i → (m ≡ 0 → ⊥) → m - 1 < n
mate_in s n i m e h = entry_in s n i m (m - 1) e (omega arith, refl)

-- ---- what is left to judge gives what all give
abbrev pub Left : (ℕ → ℕ → Result (Unit {0}) Refusal) → (ℕ → ℕ) → ℕ → ℕ → Type 0
Left v f n i = judge_by v (pairs_from f i (n - i)) ≡ judge_by v (pairs_from f 0 n)

pub left_start : (v : ℕ → ℕ → Result (Unit {0}) Refusal) (f : ℕ → ℕ) (n : ℕ) → Left v f n 0
left_start v f n = ap (judge_by v) (pairs_start f n)

pub left_end : (v : ℕ → ℕ → Result (Unit {0}) Refusal) (f : ℕ → ℕ) (n i : ℕ) → Left v f n i → n ≤ i → (Ok tt) ≡ judge_by v (pairs_from f 0 n)
unfolding judge_by
left_end v f n i l h = sym (ap (judge_by v) (pairs_end f n i h)) ∙ l

module _ (v : ℕ → ℕ → Result (Unit {0}) Refusal) (f : ℕ → ℕ) (n i : ℕ) (l : Left v f n i) (below : i < n) (m : ℕ) (e : m ≡ f i) where
  pub left_alone : m ≡ 0 → Left v f n (i + 1)
  left_alone z = sym (ap (judge_by v) (pairs_turn f n i m below e ∙ ap (λ (x : ℕ). mate_cons i x (pairs_from f (i + 1) (n - (i + 1)))) z)) ∙ l

  module _ (j : ℕ) (some : Entry m j) (r r' : Result (Unit {0}) Refusal) (d : r ≡ v i j) (d' : r ≡ r') where
    turn : on_verdict r' (judge_by v (pairs_from f (i + 1) (n - (i + 1)))) ≡ judge_by v (pairs_from f 0 n)
    unfolding judge_by
    turn =
        let u : m ≡ suc j = omega (arith, some.0, some.1) in
        ap (λ (x : Result (Unit {0}) Refusal). on_verdict x (judge_by v (pairs_from f (i + 1) (n - (i + 1))))) (sym d' ∙ d)
        ∙ sym (ap (judge_by v) (pairs_turn f n i m below e ∙ ap (λ (x : ℕ). mate_cons i x (pairs_from f (i + 1) (n - (i + 1)))) u)) ∙ l

    pub left_passed : r' ≡ Ok tt → Left v f n (i + 1)
    left_passed h = ap (λ (x : Result (Unit {0}) Refusal). on_verdict x (judge_by v (pairs_from f (i + 1) (n - (i + 1))))) (sym h) ∙ turn

    pub left_refused : (q : Refusal) → r' ≡ Err q → Err q ≡ judge_by v (pairs_from f 0 n)
    left_refused q h = ap (λ (x : Result (Unit {0}) Refusal). on_verdict x (judge_by v (pairs_from f (i + 1) (n - (i + 1))))) (sym h) ∙ turn
