-- Two records that were judged and not refused: whatever places are named, they are judged so, and by their headers alone it is known how.
use Rattle.std.specs.Prelude.{Result, Ok, Err}
use Rattle.refusal.specs.declared.Refusal.{Refusal}
use Rattle.cigar.specs.declared.Totals.{Totals}
use Rattle.pair_judgement.specs.declared.Untreated.TheVariants as Untreateds
use Prim.Native.Nat.{ℕ, ◌+◌, ◌*◌, ◌<◌}
use mathlib.Core.Path.{◌≡◌, refl, sym, ap, ◌∙◌}
use mathlib.Core.List.{List}
use mathlib.Core.Bool.{Bool, true, false, cond, ◌&&◌, not}
use mathlib.Core.Logic.{◌⊎◌, ⊎_elim}
use native.Mathlib.Omega.{arith}
use lib.Dec.{eqb, ltb}
use lib.ListN.{length}
use Rattle.fields.specs.declared.Layout.{Layout}
use Rattle.fields.specs.declared.RefPos.{RefPos}
use Rattle.fields.specs.Layout.{layout_of}
use Rattle.fields.specs.Sound.{Lies}
use Rattle.refusal.specs.declared.Refusal.TheVariants.{ReadTotal, ReferenceEnd}
use Rattle.cigar.specs.declared.Extent.{Extent}
use Rattle.cigar.specs.Operation.{ops_in}
use Rattle.cigar.specs.Judge.{walk_of, judged, operations_of, extent, span_of}
use Rattle.stats.specs.declared.CorrectionStats.{CorrectionStats}
use Rattle.stats.specs.Room.{Room}
use Rattle.stats.proofs.CountLaws.{room_less}
use Rattle.strategy.specs.declared.Strategies.{Strategies}
use Rattle.positions.specs.Step.{State, state, job}
use Rattle.pair_merge.specs.Shared.{Walked}
use Rattle.pair_judgement.specs.declared.Reason.{Reason}
use Rattle.pair_judgement.specs.Judgement.{on_uses, on_span, span_in, judged_of}
use Rattle.pair_judgement.specs.Where.{where_of}
use Rattle.pair_judgement.specs.Ready.{TreatedTo, Cleared, TreatedAt}
use Rattle.pair_judgement.proofs.JudgeLaws.{where_judged}
use Rattle.pair_judgement.proofs.TreatLaws.{on_uses_lem, Spanned, spanned, spanned_walked, none_met, empty₁, empty₂, few_bases}

-- ---- a record that passes step 7 passes it at any place, with what it covers
uses_any : (count n i j : ℕ) (k : Result Totals ℕ) (m : ℕ) → judged count n i k ≡ Ok m → judged count n j k ≡ Ok m
uses_any count n i j (Ok w) m e = go (ltb 0 count && ltb 0 n && not (eqb w.read count)) e
  where
    go : (t : Bool) → cond t (Err (ReadTotal i)) (Ok w.reference) ≡ Ok m → cond t (Err (ReadTotal j)) (Ok w.reference) ≡ Ok m
    go true f = let z : ◌≡◌ {A = ℕ} 0 1 = cc in absurd (omega arith)
    go false f = f
uses_any count n i j (Err k) m e = let z : ◌≡◌ {A = ℕ} 0 1 = cc in absurd (omega arith)

end_any : (pos n i j : ℕ) (x : Extent) → span_of pos n i ≡ Ok x → span_of pos n j ≡ Ok x
unfolding span_of
end_any pos n i j x e = go (ltb 2147483646 (pos + n)) e
  where
    go : (t : Bool) → cond t (Err (ReferenceEnd i)) (Ok (extent pos n)) ≡ Ok x → cond t (Err (ReferenceEnd j)) (Ok (extent pos n)) ≡ Ok x
    go true f = let z : ◌≡◌ {A = ℕ} 0 1 = cc in absurd (omega arith)
    go false f = f

span_any : (y : Layout) (s : List ℕ) (pos i j : ℕ) (x : Extent) → span_in y s pos i ≡ Ok x → span_in y s pos j ≡ Ok x
unfolding span_in operations_of
span_any y s pos i j x e =
    let u = on_uses_lem (operations_of y s i) (λ n. span_of pos n i) x e in
    let o : operations_of y s j ≡ Ok u.0 = uses_any y.count (length (ops_in y s)) i j (walk_of (ops_in y s)) u.0 u.1.0 in
    ap (λ (k : Result ℕ Refusal). on_uses k (λ n. span_of pos n j)) o ∙ end_any pos u.0 i j x u.1.1

-- a position that is one more than pos
pub starts : (x : RefPos) (pos : ℕ) → x.0 ≡ pos + 1 → x ≡ record { 0 = pos + 1 }
starts x pos e = λ i. record { 0 = e i }

-- ---- both records
-- what two records on one reference, at p and q, cover: they are judged so at any places
pub record Covered (a b : List ℕ) (p q : ℕ) : Type 0 where
  pub extent₁ : Extent
  pub extent₂ : Extent
  pub judged : (i j : ℕ) → judged_of (layout_of a) (layout_of b) a b i j ≡ Ok (extent₁, extent₂)
  pub span₁ : Spanned (layout_of a) a p extent₁
  pub span₂ : Spanned (layout_of b) b q extent₂

module _ (a b : List ℕ) where
  abbrev y : Layout
  y = layout_of a

  abbrev z : Layout
  z = layout_of b

  pub cleared_apart : (r : Reason) → where_of a b ≡ Err r → (i j : ℕ) → judged_of (layout_of a) (layout_of b) a b i j ≡ Err (Untreateds.Apart r)
  cleared_apart r e i j = sym (rw e at (where_judged y z a b i j))

  pub cleared_on : (p q : ℕ) → Cleared a b → where_of a b ≡ Ok (p, q) → Covered a b p q
  cleared_on p q k e = first (span_in y a p k.place₁) refl
    where
      at : (i j : ℕ) → on_span (span_in y a p i) (λ s. on_span (span_in z b q j) (λ t. Ok (s, t))) ≡ judged_of y z a b i j
      at i j = (rw e at (where_judged y z a b i j))

      second : (x : Extent) → span_in y a p k.place₁ ≡ Ok x → (v : Result Extent Refusal) → span_in z b q k.place₂ ≡ v → Covered a b p q
      second x f (Ok t) g = record {
        extent₁ = x;
        extent₂ = t;
        judged = λ i j. sym (rw (span_any y a p k.place₁ i x f, span_any z b q k.place₂ j t g) at (at i j));
        span₁ = spanned y a p k.place₁ x f;
        span₂ = spanned z b q k.place₂ t g;
      }
      second x f (Err r) g = absurd (k.passed r (sym (rw (f, g) at (at k.place₁ k.place₂))))

      first : (u : Result Extent Refusal) → span_in y a p k.place₁ ≡ u → Covered a b p q
      first (Ok x) f = second x f (span_in z b q k.place₂) refl
      first (Err r) f = absurd (k.passed r (sym (rw f at (at k.place₁ k.place₂))))

-- ---- the call, by where the records were found, and by their layouts as they were read
module _ (a b : List ℕ) (k : Result (ℕ × ℕ) Reason) (found : k ≡ where_of a b) where
  -- records apart
  pub apart_met : (r : Reason) → k ≡ Err r → (w : Strategies) (g h : CorrectionStats) (n : ℕ) → (n ≡ 0) × (h ≡ g) → TreatedAt (where_of a b) w (state a b g) (state a b h) n
  apart_met r e w g h n m = rw (sym found ∙ e) (ap (state a b) m.1, m.0)

  module _ (p q : ℕ) (on : k ≡ Ok (p, q)) (y z : Layout) (read₁ : y ≡ layout_of a) (read₂ : z ≡ layout_of b) where
    -- records on one reference
    pub on_met : (w : Strategies) (g : CorrectionStats) (u : State) (n : ℕ) → TreatedTo (job w y z) (record { 0 = p + 1 }) (record { 0 = q + 1 }) (state a b g) u n
        → TreatedAt (where_of a b) w (state a b g) u n
    on_met w g u n t = rw (sym found ∙ on) (rw (read₁, read₂) at t)

    -- of which one has no base
    pub empty_met : (y.count ≡ 0) ⊎ (z.count ≡ 0) → (w : Strategies) (g h : CorrectionStats) (n : ℕ) → (n ≡ 0) × (h ≡ g)
        → TreatedAt (where_of a b) w (state a b g) (state a b h) n
    empty_met c w g h n m =
        on_met w g (state a b h) n
        (none_met (job w y z) _ _ a b g h n (⊎_elim (empty₁ y z _ _ a b) (empty₂ y z _ _ a b) c) m)

    -- what the merge asks
    pub cleared_asks : Cleared a b → (y.count ≡ 0 → ⊥) → (z.count ≡ 0 → ⊥) → (g : CorrectionStats) → Room g 131072
        → Lies y (length a) × Lies z (length b) × Walked y (record { 0 = p + 1 }) a × Walked z (record { 0 = q + 1 }) b × Room g (2 * y.count)
    cleared_asks k' h l g r =
        let c = cleared_on a b p q k' (sym found ∙ on) in
        let h' : 0 < (layout_of a).count = omega (arith, h, ap (λ (x : Layout). x.count) read₁) in
        let l' : 0 < (layout_of b).count = omega (arith, l, ap (λ (x : Layout). x.count) read₂) in
        rw (read₁, read₂) (
          k'.first.lies,
          k'.second.lies,
          rw (starts c.extent₁.start p c.span₁.first) at (spanned_walked (layout_of a) a p c.extent₁ c.span₁ k'.first h'),
          rw (starts c.extent₂.start q c.span₂.first) at (spanned_walked (layout_of b) b q c.extent₂ c.span₂ k'.second l'),
          room_less g _ 131072 (few_bases _ (layout_of a) k'.first) r,
        )
