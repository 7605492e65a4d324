-- What a merge into lent statistics g answers, and what it leaves in them: the sums, or g where it is refused (13).
use Rattle.refusal.specs.declared.Refusal.{Refusal}
use Rattle.std.specs.Prelude.{ℕ, List, [], ◌∷◌, Result, Ok, Err}
use Rattle.refusal.specs.Table.{number_of, place_of}
use Rattle.stats.specs.declared.CorrectionStats.{CorrectionStats}
use Rattle.stats.specs.Counts.{merged_of}

-- the answer in the paper's numbers: 0; or a refusal's number, then its place
abbrev pub merge_numbers : Result (Unit {0}) Refusal → List ℕ
merge_numbers (Ok done) = 0 ∷ []
merge_numbers (Err r) = number_of r ∷ place_of r ∷ []

-- the answer, and the counts after the merge
pub record MergeCalled : Type 0 where
  pub answer : Result (Unit {0}) Refusal
  pub stats : CorrectionStats

abbrev pub merge_called : Result (Unit {0}) Refusal → CorrectionStats → MergeCalled
merge_called r g = record { answer = r; stats = g }

abbrev pub on_merged : CorrectionStats → Result CorrectionStats Refusal → MergeCalled
on_merged g (Ok t) = merge_called (Ok tt) t
on_merged g (Err r) = merge_called (Err r) g

abbrev pub merge_of : CorrectionStats → CorrectionStats → MergeCalled
merge_of g h = on_merged g (merged_of g h)
