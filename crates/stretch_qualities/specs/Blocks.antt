-- A block: 32 lanes, of which the first d stay as they are.
use Rattle.std.specs.Prelude.{ℕ, zero, suc, ◌+◌, ◌<◌, ◌≡◌, List, cond, get_or, length, ltb}
use Rattle.strategy.specs.declared.Strategies.{Strategies}
use Rattle.lane.specs.declared.Qualities.{Qualities}
use Rattle.lane.specs.LaneRule.{qualities, agreed_of, changed_of}
use Rattle.stretch_qualities.specs.declared.Block.{Block}

-- f t + f (t + 1) + .., m of them
unfoldable pub sum_of : (ℕ → ℕ) → ℕ → ℕ → ℕ
sum_of f t zero = 0
sum_of f t (suc m) = f t + sum_of f (suc t) m

-- lane t, of the bytes p + t of a and q + t of b
abbrev pub lane_at : Strategies → List ℕ → ℕ → List ℕ → ℕ → ℕ → ℕ → Qualities
lane_at w a p b q d t = cond (ltb t d) (qualities (get_or a (p + t) 0) (get_or b (q + t) 0)) (agreed_of w (get_or a (p + t) 0) (get_or b (q + t) 0))

-- 1 where it changes a quality
abbrev pub change_at : Strategies → List ℕ → ℕ → List ℕ → ℕ → ℕ → ℕ → ℕ
change_at w a p b q d t = changed_of (get_or a (p + t) 0) (get_or b (q + t) 0) (lane_at w a p b q d t).qual1 (lane_at w a p b q d t).qual2

-- l holds the 32 lanes, and how many of them change a quality
pub record BlockOf (w : Strategies) (a : List ℕ) (p : ℕ) (b : List ℕ) (q d : ℕ) (l : Block) : Type 0 where
  pub length₁ : length l.qual1 ≡ 32
  pub length₂ : length l.qual2 ≡ 32
  pub qual1 : (t : ℕ) → t < 32 → get_or l.qual1 t 0 ≡ (lane_at w a p b q d t).qual1
  pub qual2 : (t : ℕ) → t < 32 → get_or l.qual2 t 0 ≡ (lane_at w a p b q d t).qual2
  pub corrected : l.corrected ≡ sum_of (change_at w a p b q d) 0 32
