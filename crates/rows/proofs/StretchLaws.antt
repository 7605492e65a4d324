-- A stretch is that many positions of a row, with the counts of its agreements beside the others.
use Prim.Native.Nat.{ℕ, zero, suc, ◌+◌, ◌/◌, ◌≤◌}
use mathlib.Core.Path.{◌≡◌, refl, sym, ap, ◌∙◌}
use mathlib.Core.List.{List}
use native.Mathlib.Omega.{arith}
use lib.ListN.{get_or, set}
use Rattle.fields.specs.declared.Layout.{Layout}
use Rattle.stats.specs.declared.CorrectionStats.{CorrectionStats}
use Rattle.strategy.specs.declared.Strategies.{Strategies}
use Rattle.lane.specs.LaneRule.{agreed_of, changed_of}
use Rattle.positions.specs.Step.{State}
use Rattle.positions.proofs.PointLaws.{Both}
use Rattle.positions.proofs.PutLaws.{base_set}
use Rattle.positions.proofs.BesideLaws.{Adding, adding_agreed}
use Rattle.stretch.specs.Alike.{Alike}
use Rattle.stretch_qualities.specs.Stretched.{Stretched, stretched, agreed_row}
use Rattle.stretch_qualities.proofs.RowLaws.{further, row_count}

-- bases stay where qualities behind them are set
alike_set : (y z : Layout) (i j k p q x v m n : ℕ) (a b : List ℕ) → y.bases + (y.count + 1) / 2 ≤ p → z.bases + (z.count + 1) / 2 ≤ q → i + k ≤ y.count → j + k ≤ z.count
    → m + 1 + n ≡ k → Alike a b y z (i + m) (j + m) (suc n) → Alike (set a p x) (set b q v) y z (i + (m + 1)) (j + (m + 1)) n
alike_set y z i j k p q x v m n a b hp hq hi hj e f =
    record {
      same = λ u l.
          rw (base_set a y (i + (m + 1) + u) p x (omega arith), base_set b z (j + (m + 1) + u) q v (omega arith), at i u, at j u) (f.same (suc u) (omega arith));
      called = λ u l. rw (base_set a y (i + (m + 1) + u) p x (omega arith), at i u) (f.called (suc u) (omega arith));
    }
  where
    at : (e u : ℕ) → e + (m + 1) + u ≡ e + m + suc u
    at e u = omega arith

module _ (w : Strategies) (y z : Layout) (i j n : ℕ) (s₀ : State) (both : Both y z s₀) (hi : i + n ≤ y.count) (hj : j + n ≤ z.count) where
  -- k positions that agree, their qualities treated one after the other
  adding_run : (k t : ℕ) (a b : List ℕ) (h : CorrectionStats) (e c : ℕ) (r : Stretched) → t + k ≤ n → Alike a b y z (i + t) (j + t) k → Adding w y z i j n s₀ t a b h e c
      → r ≡ agreed_row w (y.qualities + (i + t)) (z.qualities + (j + t)) k (stretched a b c) → Adding w y z i j n s₀ (t + k) r.first r.second h (e + k) r.corrected
  unfolding agreed_row
  adding_run zero t a b h e c r l f inv x =
      let d : t + 0 ≡ t = omega arith in
      let g : e + 0 ≡ e = omega arith in
      rw (d, g, x) inv
  adding_run (suc k) t a b h e c r l f inv x =
      let p = y.qualities + (i + t) in
      let q = z.qualities + (j + t) in
      let o = agreed_of w (get_or a p 0) (get_or b q 0) in
      let v = changed_of (get_or a p 0) (get_or b q 0) o.qual1 o.qual2 in
      let i0 : i + t + 0 ≡ i + t = omega arith in
      let j0 : j + t + 0 ≡ j + t = omega arith in
      let p1 : y.qualities + (i + (t + 1)) ≡ suc p = omega arith in
      let q1 : z.qualities + (j + (t + 1)) ≡ suc q = omega arith in
      let d : t + 1 + k ≡ t + suc k = omega arith in
      let g : e + 1 + k ≡ e + suc k = omega arith in
      let one : Adding w y z i j n s₀ (t + 1) (set a p o.qual1) (set b q o.qual2) h (e + 1) (c + v)
      = adding_agreed w y z i j n s₀ t a b h e c both hi hj (omega arith) inv o v (rw (i0, j0) at (f.same 0 (omega arith))) (rw i0 at (f.called 0 (omega arith))) refl refl in
      rw (d, g) at
      (adding_run k (t + 1) (set a p o.qual1) (set b q o.qual2) h (e + 1) (c + v) r (omega arith)
      (alike_set y z i j (t + 1 + k) p q o.qual1 o.qual2 t k a b (omega (arith, both.first.bases)) (omega (arith, both.second.bases)) (omega arith) (omega arith) refl f)
      one (rw (p1, q1) x))

  -- with their count begun at 0
  pub adding_stretch : (k t : ℕ) (a b : List ℕ) (h : CorrectionStats) (e c : ℕ) (a' b' : List ℕ) (x : ℕ) → t + k ≤ n → Alike a b y z (i + t) (j + t) k → Adding w y z i j n s₀ t a b h e c
      → stretched a' b' x ≡ agreed_row w (y.qualities + (i + t)) (z.qualities + (j + t)) k (stretched a b 0) → Adding w y z i j n s₀ (t + k) a' b' h (e + k) (c + x)
  adding_stretch k t a b h e c a' b' x l f inv r =
      let c0 : c + 0 ≡ c = omega arith in
      adding_run k t a b h e c (stretched a' b' (c + x)) l f inv
      (ap (further c) r ∙ (rw c0 at (sym (row_count w (y.qualities + (i + t)) (z.qualities + (j + t)) k c 0 a b))))
