-- Shared positions treated one after the other, as the code does it.
use Rattle.std.specs.Prelude.{ℕ, zero, suc, List, [], ◌∷◌}
use Rattle.stats.specs.Counts.{plus}
use Rattle.strategy.specs.declared.Treated.{Treated}
use Rattle.bases.specs.Written.{with_seen}
use Rattle.positions.specs.declared.Job.{Job}
use Rattle.positions.specs.Step.{State, state, ruled}

abbrev pub wrote : Job → State → ℕ → ℕ → Treated → State
wrote w s i j o = state (with_seen s.first w.first i o.base1 o.qual1) (with_seen s.second w.second j o.base2 o.qual2) (plus s.stats o.growth)

-- one position; and a list of them, each by its two offsets
unfoldable pub step : Job → State → ℕ → ℕ → State
step w s i j = wrote w s i j (ruled w s.first s.second i j)

unfoldable pub steps : Job → List (ℕ × ℕ) → State → State
steps w [] s = s
steps w (e ∷ l) s = steps w l (step w s e.0 e.1)

-- n positions in a row, from offsets i and j on
unfoldable pub row : ℕ → ℕ → ℕ → List (ℕ × ℕ)
row i j zero = []
row i j (suc n) = (i, j) ∷ row (suc i) (suc j) n
