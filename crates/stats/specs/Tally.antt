-- The four counts as 32 bytes of a list.
use Rattle.std.specs.Prelude.{ℕ, ◌+◌, List}
use Rattle.fields.specs.Number.{unsigned, put}
use Rattle.stats.specs.declared.CorrectionStats.{CorrectionStats}
use Rattle.stats.specs.Counts.{counts}

-- overlapping, agreeing, disagreeing, corrected: 8 bytes each from place at on
abbrev pub counts_at : List ℕ → ℕ → CorrectionStats
counts_at c at = counts (unsigned 8 c at) (unsigned 8 c (at + 8)) (unsigned 8 c (at + 16)) (unsigned 8 c (at + 24))

-- c with these counts from place at on
abbrev pub with_counts : List ℕ → ℕ → CorrectionStats → List ℕ
with_counts c at g =
    put 8 (put 8 (put 8 (put 8 c at g.overlapping) (at + 8) g.agreeing) (at + 16) g.disagreeing) (at + 24) g.corrected
