-- What is known of two records that were judged to be on one reference, and what treating them asks.
use Rattle.std.specs.Prelude.{Result, Ok, Err, Some, None, Option as Optional}
use Rattle.refusal.specs.declared.Refusal.{Refusal}
use Rattle.pair_judgement.specs.declared.Untreated.TheVariants as Untreateds
use Prim.Native.Nat.{ℕ, ◌+◌, ◌*◌, ◌≤◌, ◌<◌}
use mathlib.Core.Path.{◌≡◌, refl, sym, ap, ◌∙◌}
use mathlib.Core.List.{List, []}
use mathlib.Core.Bool.{Bool, true, false, cond, ◌||◌}
use mathlib.Core.Option.{Option, none, some}
use mathlib.Core.Logic.{inl, inr}
use native.Mathlib.Omega.{arith}
use lib.Dec.{ltb}
use lib.ListN.{length}
use borrow.Author.Tests.{le-ltb, eqb-true, eqb-false}
use Rattle.fields.specs.declared.Layout.{Layout}
use Rattle.fields.specs.declared.RefPos.{RefPos}
use Rattle.fields.specs.Flag.{has_bit, unmapped}
use Rattle.fields.specs.Layout.{header}
use Rattle.fields.specs.Position.{position_of, same_id}
use Rattle.fields.specs.Sound.{Sound}
use Rattle.cigar.specs.Operation.{read_sum, ref_sum, ops_in}
use Rattle.cigar.specs.declared.Extent.{Extent}
use Rattle.cigar.specs.Found.{off_at, of_bases, base_on}
use Rattle.cigar.proofs.SitsLaws.{off_within}
use Rattle.cigar.specs.Judge.{operations_of, span_of}
use Rattle.cigar.proofs.JudgeLaws.{good_uses, good_span}
use Rattle.stats.specs.declared.CorrectionStats.{CorrectionStats}
use Rattle.positions.specs.declared.Job.{Job}
use Rattle.positions.specs.Step.{State, state}
use Rattle.positions.specs.Treating.{steps}
use Rattle.pair_merge.specs.Shared.{base_in, pairs, shared, merged, Walked}
use Rattle.pair_merge.proofs.PairLaws.{none_left, none_in}
use Rattle.pair_judgement.specs.declared.Reason.{Reason}
use Rattle.pair_judgement.specs.declared.Reason.TheVariants.{Unmapped, ReferencesDiffer}
use Rattle.pair_judgement.specs.Judgement.{on_uses, on_span, on_position, span_in, mapped_of, judged_of, Judged}
use Rattle.pair_judgement.specs.Reason.{covers_none, lengthless}
use Rattle.pair_judgement.specs.Ready.{Ready, TreatedTo}

-- ---- each step was passed
pub on_uses_lem : (o : Result ℕ Refusal) (f : ℕ → Result Extent Refusal) (s : Extent) → on_uses o f ≡ Ok s → (n : ℕ) × ((o ≡ Ok n) × (f n ≡ Ok s))
on_uses_lem (Ok n) f s e = (n, (refl, e))
on_uses_lem (Err r) f s e = let z : ◌≡◌ {A = ℕ} 0 1 = cc in absurd (omega arith)

on_span_lem : (x : Result Extent Refusal) (f : Extent → Judged) (p q : Extent) → on_span x f ≡ Ok (p, q) → (s : Extent) × ((x ≡ Ok s) × (f s ≡ Ok (p, q)))
on_span_lem (Ok s) f p q e = (s, (refl, e))
on_span_lem (Err r) f p q e = let z : ◌≡◌ {A = ℕ} 0 1 = cc in absurd (omega arith)

on_placed : (x : Optional ℕ) (f : ℕ → Judged) (p q : Extent) → on_position x f ≡ Ok (p, q) → (n : ℕ) × ((x ≡ Some n) × (f n ≡ Ok (p, q)))
on_placed (Some n) f p q e = (n, (refl, e))
on_placed None f p q e = let z : ◌≡◌ {A = ℕ} 0 1 = cc in absurd (omega arith)

on_true : (t : Bool) (x : Judged) (r : Reason) (p q : Extent) → cond t x (Err (Untreateds.Apart r)) ≡ Ok (p, q) → (t ≡ true) × (x ≡ Ok (p, q))
on_true true x r p q e = (refl, e)
on_true false x r p q e = let z : ◌≡◌ {A = ℕ} 0 1 = cc in absurd (omega arith)

on_neither : (t u : Bool) (r : Reason) (x : Judged) (p q : Extent) → cond (t || u) (Err (Untreateds.Apart r)) x ≡ Ok (p, q) → (t ≡ false) × (u ≡ false) × (x ≡ Ok (p, q))
on_neither true u r x p q e = let z : ◌≡◌ {A = ℕ} 0 1 = cc in absurd (omega arith)
on_neither false true r x p q e = let z : ◌≡◌ {A = ℕ} 0 1 = cc in absurd (omega arith)
on_neither false false r x p q e = (refl, refl, e)

-- ---- one record whose alignment covers p
pub record Spanned (y : Layout) (s : List ℕ) (pos : ℕ) (p : Extent) : Type 0 where
  pub first : p.start.0 ≡ pos + 1
  pub past : p.end.0 ≡ p.start.0 + ref_sum (ops_in y s)
  pub last : pos + ref_sum (ops_in y s) ≤ 2147483646
  pub read : 0 < y.count → read_sum (ops_in y s) ≤ y.count

pub spanned : (y : Layout) (s : List ℕ) (pos place : ℕ) (p : Extent) → span_in y s pos place ≡ Ok p → Spanned y s pos p
unfolding span_in
spanned y s pos place p e =
    let u = on_uses_lem (operations_of y s place) (λ n. span_of pos n place) p e in
    let g = good_uses y s place u.0 u.1.0 in
    let h = good_span pos u.0 place p u.1.1 in
    record { first = h.first; past = omega (arith, h.first, h.past, g.reference); last = omega (arith, h.last, g.reference); read = g.read }

pub spanned_walked : (y : Layout) (s : List ℕ) (pos : ℕ) (p : Extent) → Spanned y s pos p → Sound s y → 0 < y.count → Walked y p.start s
spanned_walked y s pos p h g c =
    record { reads = h.read c; refs = omega (arith, h.first, h.last); small = omega (arith, g.lies.qualities, g.allowed) }

-- whether it covers no position, by its lengths on the reference
pub none_covered : {y : Layout} {s : List ℕ} {pos : ℕ} {p : Extent} → Spanned y s pos p → covers_none p ≡ true → ref_sum (ops_in y s) ≡ 0
none_covered {p = p} h e = omega (arith, h.past, eqb-true p.start.0 p.end.0 e)

pub some_covered : {y : Layout} {s : List ℕ} {pos : ℕ} {p : Extent} → Spanned y s pos p → covers_none p ≡ false → ref_sum (ops_in y s) ≡ 0 → ⊥
some_covered {p = p} h e z = eqb-false p.start.0 p.end.0 e (omega (arith, h.past))

-- ---- both records
ok_both : (s t p q : Extent) → ◌≡◌ {A = Judged} (Ok (s, t)) (Ok (p, q)) → (s ≡ p) × (t ≡ q)
ok_both s t p q e = let k : ◌≡◌ {A = Extent × Extent} (s, t) (p, q) = cc in (ap (λ (x : Extent × Extent). x.0) k, ap (λ (x : Extent × Extent). x.1) k)

pub record Known (y z : Layout) (a b : List ℕ) (p q : Extent) : Type 0 where
  pub mapped₁ : has_bit (header a).flags unmapped ≡ false
  pub mapped₂ : has_bit (header b).flags unmapped ≡ false
  pub reference : same_id (header a).ref_id (header b).ref_id ≡ true
  pub pos₁ : ℕ
  pub pos₂ : ℕ
  pub placed₁ : position_of (header a).pos ≡ Some pos₁
  pub placed₂ : position_of (header b).pos ≡ Some pos₂
  pub span₁ : Spanned y a pos₁ p
  pub span₂ : Spanned z b pos₂ q

pub both_known : (y z : Layout) (a b : List ℕ) (i j : ℕ) (p q : Extent) → judged_of y z a b i j ≡ Ok (p, q) → Known y z a b p q
unfolding judged_of mapped_of
both_known y z a b i j p q e =
    let m = on_neither (has_bit (header a).flags unmapped) (has_bit (header b).flags unmapped) Unmapped _ p q e in
    let r = on_true (same_id (header a).ref_id (header b).ref_id) _ ReferencesDiffer p q m.2 in
    let n₁ = on_placed (position_of (header a).pos) _ p q r.1 in
    let n₂ = on_placed (position_of (header b).pos) _ p q n₁.1.1 in
    let s₁ = on_span_lem (span_in y a n₁.0 i) _ p q n₂.1.1 in
    let s₂ = on_span_lem (span_in z b n₂.0 j) _ p q s₁.1.1 in
    let e = ok_both s₁.0 s₂.0 p q s₂.1.1 in
    record {
      mapped₁ = m.0;
      mapped₂ = m.1;
      reference = r.0;
      pos₁ = n₁.0;
      pos₂ = n₂.0;
      placed₁ = n₁.1.0;
      placed₂ = n₂.1.0;
      span₁ = spanned y a n₁.0 i p (s₁.1.0 ∙ ap Ok e.0);
      span₂ = spanned z b n₂.0 j q (s₂.1.0 ∙ ap Ok e.1);
    }

-- ---- without bases nothing is shared
no_bases : (n : ℕ) (x : Option ℕ) → n ≡ 0 → of_bases n x ≡ none
no_bases n none e = refl
no_bases n (some i) e = rw (le-ltb i n (omega arith))

module _ (y z : Layout) (p q : RefPos) (a b : List ℕ) where
  pub empty₁ : y.count ≡ 0 → shared y z p q a b ≡ []
  unfolding shared
  empty₁ e = none_left (base_in y a p) (base_in z b q) p.0 _ (λ t l. inl (no_bases y.count (off_at (ops_in y a) 0 p.0 t) e))

  pub empty₂ : z.count ≡ 0 → shared y z p q a b ≡ []
  unfolding shared
  empty₂ e = none_left (base_in y a p) (base_in z b q) p.0 _ (λ t l. inr (no_bases z.count (off_at (ops_in z b) 0 q.0 t) e))

  pub unshared : shared y z p q a b ≡ [] → false ≡ ltb 0 (length (shared y z p q a b))
  unshared e = sym (ap (λ (l : List (ℕ × ℕ)). ltb 0 (length l)) e)

-- ---- nor where one ends before the other begins
outside : (count : ℕ) (ops : List ℕ) (r t : ℕ) → ((r ≤ t) × (t < r + ref_sum ops) → ⊥) → base_on count ops r t ≡ none
outside count ops r t h = go (off_at ops 0 r t) refl
  where
    go : (x : Option ℕ) → off_at ops 0 r t ≡ x → of_bases count x ≡ none
    go none e = refl
    go (some i) e = let w = off_within ops r i t e in absurd (h (w.1, w.2))

-- nor where one uses nothing of the reference
module _ (y z : Layout) (p q : RefPos) (a b : List ℕ) where
  pub lengthless₁ : ref_sum (ops_in y a) ≡ 0 → shared y z p q a b ≡ []
  unfolding shared pairs
  lengthless₁ e = ap (pairs (base_in y a p) (base_in z b q) p.0) e

  pub lengthless₂ : ref_sum (ops_in z b) ≡ 0 → shared y z p q a b ≡ []
  unfolding shared
  lengthless₂ e =
      none_left (base_in y a p) (base_in z b q) p.0 _
      (λ t l. inr (outside z.count (ops_in z b) q.0 t (λ w. absurd (omega (arith, w.0, w.1, e)))))

  -- by what they cover
  pub none_reached : {m n : ℕ} (x t : Extent) → Spanned y a m x → Spanned z b n t → lengthless x t ≡ true → shared y z p q a b ≡ []
  none_reached x t h k e = go (covers_none x) (covers_none t) refl refl e
    where
      go : (c d : Bool) → covers_none x ≡ c → covers_none t ≡ d → c || d ≡ true → shared y z p q a b ≡ []
      go true d f g e' = lengthless₁ (none_covered h f)
      go false true f g e' = lengthless₂ (none_covered k g)
      go false false f g e' = let n : ◌≡◌ {A = ℕ} 0 1 = cc in absurd (omega arith)

module _ (y z : Layout) (p q : Extent) (a b : List ℕ) (known : Ready y z p q a b) where
  both : Known y z a b p q
  both = both_known y z a b known.place₁ known.place₂ p q known.both

  pub before : p.end.0 ≤ q.start.0 → shared y z p.start q.start a b ≡ []
  unfolding shared
  before h =
      none_in (base_in y a p.start) (base_in z b q.start) p.start.0 (ref_sum (ops_in y a))
      (λ t l k. inr (outside z.count (ops_in z b) q.start.0 t (λ w. absurd (omega (arith, w.0, k, h, both.span₁.past)))))

  pub behind : q.end.0 ≤ p.start.0 → shared y z p.start q.start a b ≡ []
  unfolding shared
  behind h =
      none_in (base_in y a p.start) (base_in z b q.start) p.start.0 (ref_sum (ops_in y a))
      (λ t l k. inr (outside z.count (ops_in z b) q.start.0 t (λ w. absurd (omega (arith, w.1, l, h, both.span₂.past)))))

pub nothing_shared : (w : Job) (p q : RefPos) (s : State) → shared w.first w.second p q s.first s.second ≡ [] → s ≡ merged w p q s
unfolding merged steps
nothing_shared w p q s e = sym (ap (λ (l : List (ℕ × ℕ)). steps w l s) e)

-- what is answered where nothing is shared
pub none_met : (w : Job) (p q : RefPos) (a b : List ℕ) (g h : CorrectionStats) (n : ℕ) → shared w.first w.second p q a b ≡ [] → (n ≡ 0) × (h ≡ g)
    → TreatedTo w p q (state a b g) (state a b h) n
none_met w p q a b g h n e m =
    record { after = ap (state a b) m.1 ∙ nothing_shared w p q (state a b g) e; counted = m.0 ∙ sym (ap length e) }

-- a record's bases are fewer than 65,536
pub few_bases : (s : List ℕ) (y : Layout) → Sound s y → 2 * y.count ≤ 131072
few_bases s y h = omega (arith, h.lies.qualities, h.allowed)

-- what the merge asks
pub merge_asks : (y z : Layout) (p q : Extent) (a b : List ℕ) → Ready y z p q a b → 0 < y.count → 0 < z.count → Walked y p.start a × Walked z q.start b
merge_asks y z p q a b r h k =
    let n = both_known y z a b r.place₁ r.place₂ p q r.both in
    (spanned_walked y a n.pos₁ p n.span₁ r.first h, spanned_walked z b n.pos₂ q n.span₂ r.second k)
