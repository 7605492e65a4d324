-- The four counts: zero, the sum, what a call accepts, and the merge of two.
use Rattle.refusal.specs.declared.Refusal.{Refusal}
use Rattle.std.specs.Prelude.{ℕ, ◌+◌, Bool, cond, ◌||◌, List, [], ◌∷◌, ltb, Result, Ok, Err}
use Rattle.refusal.specs.declared.Refusal.TheVariants.{Sum}
use Rattle.refusal.specs.Table.{number_of, place_of}
use Rattle.stats.specs.declared.CorrectionStats.{CorrectionStats}

abbrev pub counts : ℕ → ℕ → ℕ → ℕ → CorrectionStats
counts o a d c = record { overlapping = o; agreeing = a; disagreeing = d; corrected = c }

abbrev pub zeroed : CorrectionStats
zeroed = counts 0 0 0 0

abbrev pub plus : CorrectionStats → CorrectionStats → CorrectionStats
plus g h = counts (g.overlapping + h.overlapping) (g.agreeing + h.agreeing) (g.disagreeing + h.disagreeing) (g.corrected + h.corrected)

-- some count is above n
abbrev pub above : ℕ → CorrectionStats → Bool
above n g = ltb n g.overlapping || ltb n g.agreeing || ltb n g.disagreeing || ltb n g.corrected

-- refusal 9
abbrev pub full : CorrectionStats → Bool
full g = above 18446744073692774399 g

-- the sum of two counts: refusal 13 above 2 ^ 64 - 1
abbrev pub sum_of : ℕ → ℕ → Result ℕ Refusal
sum_of a b = cond (ltb 18446744073709551615 (a + b)) (Err Sum) (Ok (a + b))

-- refusal 13: a sum above 2 ^ 64 - 1
abbrev pub merged_of : CorrectionStats → CorrectionStats → Result CorrectionStats Refusal
merged_of g h = cond (above 18446744073709551615 (plus g h)) (Err Sum) (Ok (plus g h))

-- the answer of a merge in the paper's numbers: 0, then the sums; or a refusal's number, then its place
abbrev pub merged_numbers : Result CorrectionStats Refusal → List ℕ
merged_numbers (Ok t) = 0 ∷ t.overlapping ∷ t.agreeing ∷ t.disagreeing ∷ t.corrected ∷ []
merged_numbers (Err r) = number_of r ∷ place_of r ∷ []
