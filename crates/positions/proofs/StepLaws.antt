-- Laws of treated positions: one, a row, any list.
use Prim.Native.Nat.{ℕ, zero, suc, ◌+◌, ◌-◌, ◌*◌, ◌%◌, ◌≤◌, ◌<◌}
use mathlib.Core.Path.{◌≡◌, refl, ap, ◌∙◌}
use mathlib.Core.List.{List, [], ◌∷◌, ◌++◌}
use native.Mathlib.Omega.{arith}
use lib.ListN.{length, take}
use Rattle.stats.specs.declared.CorrectionStats.{CorrectionStats}
use Rattle.stats.specs.Counts.{plus}
use Rattle.stats.specs.Room.{Room}
use Rattle.stats.proofs.CountLaws.{room_less, room_plus}
use Rattle.strategy.specs.declared.Treated.{Treated}
use Rattle.strategy.specs.Rule.{treated}
use Rattle.strategy.proofs.RuleLaws.{Fine, fine}
use Rattle.bases.specs.declared.Seen.{Seen}
use Rattle.bases.specs.Base.{quality_at}
use Rattle.bases.specs.Written.{with_seen, SeenAt}
use Rattle.bases.proofs.BaseLaws.{half_small, put_length, put_front}
use Rattle.positions.specs.declared.Job.{Job}
use Rattle.positions.specs.Step.{State, state, ruled}
use Rattle.positions.specs.Treating.{wrote, step, steps, row}

-- ---- one position
pub step_as : (w : Job) (a b a' b' : List ℕ) (g g' : CorrectionStats) (i j : ℕ) (p q : Seen) (o : Treated) → SeenAt a w.first i p → SeenAt b w.second j q
    → o ≡ treated w.strategies p.base p.quality q.base q.quality → a' ≡ with_seen a w.first i o.base1 o.qual1 → b' ≡ with_seen b w.second j o.base2 o.qual2 → g' ≡ plus g o.growth
    → state a' b' g' ≡ step w (state a b g) i j
unfolding step
step_as w a b a' b' g g' i j p q o hp hq e ea eb eg =
    let f : o ≡ ruled w a b i j = rw (hp.base, hp.quality, hq.base, hq.quality) at e in
    rw (ea, eb, eg) (ap (wrote w (state a b g) i j) f)

pub ruled_fine : (w : Job) (a b : List ℕ) (i j : ℕ) → Fine (ruled w a b i j)
ruled_fine w a b i j = fine w.strategies _ (quality_at a w.first i) _ (quality_at b w.second j) (half_small (i % 2) _) (half_small (j % 2) _)

-- ---- the counts grow by at most 2 at a position
pub step_room : (w : Job) (s : State) (i j m n : ℕ) → m + 2 ≤ n → Room s.stats n → Room (step w s i j).stats m
unfolding step
step_room w s i j m n h r =
    room_plus s.stats _ m 2 (room_less s.stats (m + 2) n h r) (ruled_fine w s.first s.second i j).growth

-- ---- a row of positions
pub row_turn : (i j t k : ℕ) → t < k → row (i + t) (j + t) (k - t) ≡ (i + t, j + t) ∷ row (i + (t + 1)) (j + (t + 1)) (k - (t + 1))
unfolding row
row_turn i j t k h =
    let e : k - t ≡ suc (k - (t + 1)) = omega arith in
    let e1 : i + (t + 1) ≡ suc (i + t) = omega arith in
    let e2 : j + (t + 1) ≡ suc (j + t) = omega arith in
    rw (e, e1, e2)

pub steps_turn : (w : Job) (i j t k : ℕ) (s s' : State) → t < k → s' ≡ step w s (i + t) (j + t)
    → steps w (row (i + (t + 1)) (j + (t + 1)) (k - (t + 1))) s' ≡ steps w (row (i + t) (j + t) (k - t)) s
unfolding steps
steps_turn w i j t k s s' h e = rw (row_turn i j t k h, e)

pub row_start : (w : Job) (i j k : ℕ) (s : State) → steps w (row (i + 0) (j + 0) (k - 0)) s ≡ steps w (row i j k) s
row_start w i j k s =
    let e : k - 0 ≡ k = omega arith in
    let e1 : i + 0 ≡ i = omega arith in
    let e2 : j + 0 ≡ j = omega arith in
    rw (e, e1, e2)

pub row_end : (w : Job) (i j t k : ℕ) (s : State) → k ≤ t → steps w (row (i + t) (j + t) (k - t)) s ≡ s
unfolding steps row
row_end w i j t k s h =
    let e : k - t ≡ 0 = omega arith in
    rw e

pub steps_append : (w : Job) (l m : List (ℕ × ℕ)) (s : State) → steps w (l ++ m) s ≡ steps w m (steps w l s)
unfolding steps
steps_append w [] m s = refl
steps_append w (e ∷ l) m s = steps_append w l m (step w s e.0 e.1)

-- ---- what all positions leave
pub steps_front : (w : Job) (l : List (ℕ × ℕ)) (s : State) → w.first.bases ≤ w.first.qualities → w.second.bases ≤ w.second.qualities
    → (take w.first.bases (steps w l s).first ≡ take w.first.bases s.first) × (take w.second.bases (steps w l s).second ≡ take w.second.bases s.second)
unfolding steps step
steps_front w [] s h k = (refl, refl)
steps_front w (e ∷ l) s h k =
    let r = steps_front w l (step w s e.0 e.1) h k in
    (r.0 ∙ put_front s.first w.first _ _ _ h, r.1 ∙ put_front s.second w.second _ _ _ k)

pub steps_length : (w : Job) (l : List (ℕ × ℕ)) (s : State) → (length (steps w l s).first ≡ length s.first) × (length (steps w l s).second ≡ length s.second)
unfolding steps step
steps_length w [] s = (refl, refl)
steps_length w (e ∷ l) s =
    let r = steps_length w l (step w s e.0 e.1) in
    (r.0 ∙ put_length s.first w.first _ _ _, r.1 ∙ put_length s.second w.second _ _ _)

pub steps_room : (w : Job) (l : List (ℕ × ℕ)) (s : State) (m : ℕ) → Room s.stats (m + 2 * length l) → Room (steps w l s).stats m
unfolding steps
steps_room w [] s m r = room_less s.stats m (m + 2 * 0) (omega arith) r
steps_room w (e ∷ l) s m r =
    steps_room w l (step w s e.0 e.1) m (step_room w s e.0 e.1 (m + 2 * length l) (m + 2 * suc (length l)) (omega arith) r)

pub row_length : (i j k : ℕ) → length (row i j k) ≡ k
unfolding row
row_length i j zero = refl
row_length i j (suc k) = ap suc (row_length (suc i) (suc j) k)

-- what the loop over a row keeps: what is left to do gives from here what the whole row gives from the start
pub record Running (w : Job) (i j k : ℕ) (s₀ : State) (t : ℕ) (s : State) : Type 0 where
  pub low : t ≤ k
  pub first : length s.first ≡ length s₀.first
  pub second : length s.second ≡ length s₀.second
  pub room : Room s.stats (2 * (k - t))
  pub left : steps w (row (i + t) (j + t) (k - t)) s ≡ steps w (row i j k) s₀

pub running_start : (w : Job) (i j k : ℕ) (s : State) → Room s.stats (2 * k) → Running w i j k s 0 s
running_start w i j k s r =
    record { low = omega arith; first = refl; second = refl; room = room_less s.stats (2 * (k - 0)) (2 * k) (omega arith) r; left = row_start w i j k s }

pub running_turn : (w : Job) (i j k t : ℕ) (s₀ s s' : State) → t < k → Running w i j k s₀ t s → s' ≡ step w s (i + t) (j + t) → Running w i j k s₀ (t + 1) s'
unfolding step
running_turn w i j k t s₀ s s' h r e =
    record {
      low = omega arith;
      first = ap (λ (x : State). length x.first) e ∙ (put_length s.first w.first _ _ _ ∙ r.first);
      second = ap (λ (x : State). length x.second) e ∙ (put_length s.second w.second _ _ _ ∙ r.second);
      room = rw e (step_room w s (i + t) (j + t) (2 * (k - (t + 1))) (2 * (k - t)) (omega arith) r.room);
      left = steps_turn w i j t k s s' h e ∙ r.left;
    }
