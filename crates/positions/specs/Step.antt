-- The state of a pair, and what the rule makes of a shared position.
use Rattle.std.specs.Prelude.{ℕ, ◌<◌, ◌≡◌, List, [], ◌∷◌}
use Rattle.fields.specs.declared.Layout.{Layout}
use Rattle.fields.specs.Among.{Among}
use Rattle.stats.specs.declared.CorrectionStats.{CorrectionStats}
use Rattle.stats.specs.Counts.{zeroed, plus}
use Rattle.strategy.specs.declared.Strategies.{Strategies}
use Rattle.strategy.specs.declared.Treated.{Treated}
use Rattle.strategy.specs.Rule.{treated}
use Rattle.bases.specs.Base.{base_at, quality_at}
use Rattle.positions.specs.declared.Job.{Job}

abbrev pub job : Strategies → Layout → Layout → Job
job v y z = record { strategies = v; first = y; second = z }

-- the bytes of both records, and the counts
pub record State : Type 0 where
  pub first : List ℕ
  pub second : List ℕ
  pub stats : CorrectionStats

abbrev pub state : List ℕ → List ℕ → CorrectionStats → State
state a b g = record { first = a; second = b; stats = g }

-- what the rule says of base i of the first record a and base j of the second record b
abbrev pub ruled : Job → List ℕ → List ℕ → ℕ → ℕ → Treated
ruled w a b i j = treated w.strategies (base_at a w.first i) (quality_at a w.first i) (base_at b w.second j) (quality_at b w.second j)

-- by how much a list of positions lets the counts grow, over the bytes a and b
unfoldable pub growths : Job → List ℕ → List ℕ → List (ℕ × ℕ) → CorrectionStats
growths w a b [] = zeroed
growths w a b (e ∷ l) = plus (ruled w a b e.0 e.1).growth (growths w a b l)

-- the offsets of each pair are below those of every later one
unfoldable pub Rising : List (ℕ × ℕ) → Type 0
Rising [] = Unit {0}
Rising (e ∷ l) = ((i j : ℕ) → Among l i j → (e.0 < i) × (e.1 < j)) × Rising l

-- base i of the first record and base j of the second are what the rule says of them as they were
pub record Becomes (w : Job) (s t : State) (i j : ℕ) : Type 0 where
  pub base₁ : base_at t.first w.first i ≡ (ruled w s.first s.second i j).base1
  pub quality₁ : quality_at t.first w.first i ≡ (ruled w s.first s.second i j).qual1
  pub base₂ : base_at t.second w.second j ≡ (ruled w s.first s.second i j).base2
  pub quality₂ : quality_at t.second w.second j ≡ (ruled w s.first s.second i j).qual2
