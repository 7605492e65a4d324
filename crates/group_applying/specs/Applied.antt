-- What a group becomes when its pairs are treated, each by what the pair call gives over the bytes s given to the group.
use Rattle.std.specs.Prelude.{ℕ, ◌+◌, ◌≡◌, List, [], ◌∷◌, length}
use Rattle.stats.specs.declared.CorrectionStats.{CorrectionStats}
use Rattle.stats.specs.Counts.{plus}
use Rattle.strategy.specs.declared.Strategies.{Strategies}
use Rattle.pair.specs.declared.Answer.{Answer}
use Rattle.pair.specs.declared.Answer.TheVariants.{NoOverlap, Overlap, Refused}
use Rattle.group_frames.specs.Frame.{put_record}
use Rattle.group_verdicts.specs.Judged.{pair_at}
use Rattle.group_applying.specs.declared.Applied.{Applied}

-- each record of the pairs l with what it becomes in its place, put into the bytes u
unfoldable pub written : Strategies → List ℕ → List (ℕ × ℕ) → List ℕ → List ℕ
written w s [] u = u
written w s (e ∷ l) u =
    written w s l (put_record s (put_record s u e.0 (pair_at w s e.0 e.1).after.first) e.1 (pair_at w s e.0 e.1).after.second)

-- the counts g with the growth of each pair
unfoldable pub grown : Strategies → List ℕ → List (ℕ × ℕ) → CorrectionStats → CorrectionStats
grown w s [] g = g
grown w s (e ∷ l) g = grown w s l (plus g (pair_at w s e.0 e.1).after.stats)

abbrev pub overlap_count : Answer → ℕ
overlap_count (NoOverlap r) = 0
overlap_count Overlap = 1
overlap_count (Refused r) = 0

-- how many of the pairs overlap
unfoldable pub overlaps_in : Strategies → List ℕ → List (ℕ × ℕ) → ℕ
overlaps_in w s [] = 0
overlaps_in w s (e ∷ l) = overlap_count (pair_at w s e.0 e.1).answer + overlaps_in w s l

-- the bytes u and the numbers r after the pairs l of s are treated
pub record AppliedTo (w : Strategies) (s : List ℕ) (l : List (ℕ × ℕ)) (g : CorrectionStats) (u : List ℕ) (r : Applied) : Type 0 where
  pub bytes : u ≡ written w s l s
  pub stats : r.stats ≡ grown w s l g
  pub pairs : r.pairs ≡ length l
  pub overlapping : r.overlapping ≡ overlaps_in w s l
