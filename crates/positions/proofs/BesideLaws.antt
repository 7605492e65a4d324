-- Positions one after the other, with the counts of the agreements added up beside the others.
use Prim.Native.Nat.{ℕ, ◌+◌, ◌*◌, ◌/◌, ◌≤◌, ◌<◌}
use mathlib.Core.Path.{◌≡◌, sym, ap, ◌∙◌}
use mathlib.Core.List.{List}
use mathlib.Core.Bool.{◌&&◌}
use native.Mathlib.Omega.{arith}
use lib.Dec.{eqb}
use lib.ListN.{get_or, set}
use lib.Seq.{set-get_or}
use Rattle.bases.specs.Code.{N}
use Rattle.fields.specs.declared.Layout.{Layout}
use Rattle.stats.specs.declared.CorrectionStats.{CorrectionStats}
use Rattle.stats.specs.Counts.{counts, plus}
use Rattle.stats.specs.Room.{Room, Adds}
use Rattle.stats.proofs.CountLaws.{counts_as, plus_zero, plus_swap}
use Rattle.strategy.specs.declared.Strategies.{Strategies}
use Rattle.strategy.specs.Rule.{out}
use Rattle.bases.specs.Base.{base_at, quality_at}
use Rattle.bases.specs.Written.{with_seen}
use Rattle.positions.specs.Step.{job, State, state, ruled}
use Rattle.positions.specs.Treating.{wrote, step, steps, row}
use Rattle.positions.proofs.StepLaws.{ruled_fine, Running, running_start, running_turn, row_end}
use Rattle.positions.proofs.PointLaws.{Both}
use Rattle.lane.specs.declared.Qualities.{Qualities}
use Rattle.lane.specs.LaneRule.{changed_of, agreed_of}
use Rattle.lane.proofs.LaneLaws.{agreed_rule, blank_rule, bit_low}
use Rattle.positions.proofs.PutLaws.{Small, set_small, put_small, put_own}

-- the counts h with e agreements more, of which c are corrected
abbrev pub beside : CorrectionStats → ℕ → ℕ → CorrectionStats
beside h e c = plus h (counts e e 0 c)

module _ (w : Strategies) (y z : Layout) where
  -- ---- a position whose bases stay
  module _ (a b : List ℕ) (g : CorrectionStats) (i j : ℕ) (ha : get_or a (y.bases + i / 2) 0 < 256) (hb : get_or b (z.bases + j / 2) 0 < 256) where
    step_qualities : (p q e c : ℕ) → ruled (job w y z) a b i j ≡ out (base_at a y i) p (base_at b z j) q (counts e e 0 c)
        → state (set a (y.qualities + i) p) (set b (z.qualities + j) q) (beside g e c) ≡ step (job w y z) (state a b g) i j
    unfolding step
    step_qualities p q e c r = sym (ap (wrote (job w y z) (state a b g) i j) r ∙ rw (put_own a y i p ha, put_own b z j q hb))

    step_none : base_at a y i ≡ N → state a b g ≡ step (job w y z) (state a b g) i j
    step_none e =
        rw (set-get_or a (y.qualities + i) 0, set-get_or b (z.qualities + j) 0, plus_zero g) at
        (step_qualities (quality_at a y i) (quality_at b z j) 0 0 (blank_rule w (base_at a y i) (quality_at a y i) (base_at b z j) (quality_at b z j) e))

  -- ---- a position treated by itself, with counts beside
  step_beside : (a b : List ℕ) (h : CorrectionStats) (i j e c : ℕ) (u : State) → u ≡ step (job w y z) (state a b h) i j
      → state u.first u.second (beside u.stats e c) ≡ step (job w y z) (state a b (beside h e c)) i j
  unfolding step
  step_beside a b h i j e c u r =
      let o = ruled (job w y z) a b i j in
      ap (λ (s : State). state s.first s.second (beside s.stats e c)) r
      ∙ ap (state (with_seen a y i o.base1 o.qual1) (with_seen b z j o.base2 o.qual2)) (plus_swap h o.growth (counts e e 0 c))

  -- ---- t positions are done, of which e agree and c of these are corrected
  pub record Adding (i j n : ℕ) (s₀ : State) (t : ℕ) (a b : List ℕ) (h : CorrectionStats) (e c : ℕ) : Type 0 where
    pub run : Running (job w y z) i j n s₀ t (state a b (beside h e c))
    pub small₁ : Small y a
    pub small₂ : Small z b
    pub few : e ≤ t
    pub fewer : c ≤ t

  module _ (i j n : ℕ) (s₀ : State) where
    pub adding_start : Room s₀.stats (2 * n) → Small y s₀.first → Small z s₀.second → Adding i j n s₀ 0 s₀.first s₀.second s₀.stats 0 0
    adding_start r ha hb =
        record { run = rw (plus_zero s₀.stats) (running_start (job w y z) i j n s₀ r); small₁ = ha; small₂ = hb; few = omega arith; fewer = omega arith }

    module _ (t : ℕ) (a b : List ℕ) (h : CorrectionStats) (e c : ℕ) (both : Both y z s₀) (hi : i + n ≤ y.count) (hj : j + n ≤ z.count) (low : t < n) (inv : Adding i j n s₀ t a b h e c) where
      byte₁ : get_or a (y.bases + (i + t) / 2) 0 < 256
      byte₁ = inv.small₁ (y.bases + (i + t) / 2) (omega (arith, both.first.bases))

      byte₂ : get_or b (z.bases + (j + t) / 2) 0 < 256
      byte₂ = inv.small₂ (z.bases + (j + t) / 2) (omega (arith, both.second.bases))

      pub adding_none : base_at a y (i + t) ≡ N → Adding i j n s₀ (t + 1) a b h e c
      adding_none x =
          record {
            run = running_turn (job w y z) i j n t s₀ (state a b (beside h e c)) (state a b (beside h e c)) low inv.run (step_none a b (beside h e c) (i + t) (j + t) byte₁ byte₂ x);
            small₁ = inv.small₁;
            small₂ = inv.small₂;
            few = omega (arith, inv.few);
            fewer = omega (arith, inv.fewer);
          }

      pub adding_agreed : (r : Qualities) (v : ℕ) → base_at a y (i + t) ≡ base_at b z (j + t) → (base_at a y (i + t) ≡ N → ⊥)
          → r ≡ agreed_of w (quality_at a y (i + t)) (quality_at b z (j + t)) → v ≡ changed_of (quality_at a y (i + t)) (quality_at b z (j + t)) r.qual1 r.qual2
          → Adding i j n s₀ (t + 1) (set a (y.qualities + (i + t)) r.qual1) (set b (z.qualities + (j + t)) r.qual2) h (e + 1) (c + v)
      adding_agreed r v eb nb er ev =
          let p₁ = quality_at a y (i + t) in
          let p₂ = quality_at b z (j + t) in
          let a' = set a (y.qualities + (i + t)) r.qual1 in
          let b' = set b (z.qualities + (j + t)) r.qual2 in
          let one : v ≤ 1 = rw ev (bit_low (eqb p₁ r.qual1 && eqb p₂ r.qual2)) in
          let x : beside h (e + 1) (c + v) ≡ beside (beside h e c) 1 v
          = counts_as (beside h (e + 1) (c + v)) (beside (beside h e c) 1 v) (omega arith) (omega arith) (omega arith) (omega arith) in
          let s : state a' b' (beside (beside h e c) 1 v) ≡ step (job w y z) (state a b (beside h e c)) (i + t) (j + t)
          = rw ev (step_qualities a b (beside h e c) (i + t) (j + t) byte₁ byte₂ r.qual1 r.qual2 1 (changed_of p₁ p₂ r.qual1 r.qual2)
          (agreed_rule w (base_at a y (i + t)) p₁ (base_at b z (j + t)) p₂ r eb nb er)) in
          record {
            run = running_turn (job w y z) i j n t s₀ (state a b (beside h e c)) _ low inv.run (ap (state a' b') x ∙ s);
            small₁ = set_small a y (i + t) r.qual1 inv.small₁;
            small₂ = set_small b z (j + t) r.qual2 inv.small₂;
            few = omega (arith, inv.few);
            fewer = omega (arith, inv.fewer);
          }

      pub adding_differ : (a' b' : List ℕ) (h' : CorrectionStats) → state a' b' h' ≡ step (job w y z) (state a b h) (i + t) (j + t) → Adding i j n s₀ (t + 1) a' b' h' e c
      unfolding step
      adding_differ a' b' h' r =
          let o = ruled (job w y z) a b (i + t) (j + t) in
          let f = ruled_fine (job w y z) a b (i + t) (j + t) in
          let la = both.first in
          let lb = both.second in
          record {
            run = running_turn (job w y z) i j n t s₀ (state a b (beside h e c)) _ low inv.run (step_beside a b h (i + t) (j + t) e c (state a' b' h') r);
            small₁ = rw (ap (λ (s : State). s.first) r)
                (put_small a y (i + t) o.base1 o.qual1 (omega (arith, la.bases, la.qualities, inv.run.first)) (omega (arith, la.bases)) f.base1 inv.small₁);
            small₂ = rw (ap (λ (s : State). s.second) r)
                (put_small b z (j + t) o.base2 o.qual2 (omega (arith, lb.bases, lb.qualities, inv.run.second)) (omega (arith, lb.bases)) f.base2 inv.small₂);
            few = omega (arith, inv.few);
            fewer = omega (arith, inv.fewer);
          }

      pub adding_room : Room h 2
      adding_room =
          let r = inv.run.room in
          record { overlapping = omega (arith, r.overlapping); agreeing = omega (arith, r.agreeing); disagreeing = omega (arith, r.disagreeing); corrected = omega (arith, r.corrected) }

    module _ (t : ℕ) (a b : List ℕ) (h : CorrectionStats) (e c : ℕ) (k : CorrectionStats) (ek : k ≡ counts e e 0 c) (inv : Adding i j n s₀ t a b h e c) where
      pub adding_adds : Adds h k
      adding_adds =
          let r = inv.run.room in
          rw ek (record { overlapping = omega (arith, r.overlapping); agreeing = omega (arith, r.agreeing); disagreeing = omega (arith, r.disagreeing); corrected = omega (arith, r.corrected) })

      pub adding_end : (g' : CorrectionStats) → g' ≡ plus h k → n ≤ t → state a b g' ≡ steps (job w y z) (row i j n) s₀
      adding_end g' eg q =
          rw (eg, ek) (sym (row_end (job w y z) i j t n (state a b (beside h e c)) q) ∙ inv.run.left)
