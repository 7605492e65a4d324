-- What a proof keeps of counts: bounds, and room to grow.
use Rattle.std.specs.Prelude.{ℕ, ◌+◌, ◌<◌, ◌≤◌}
use Rattle.stats.specs.declared.CorrectionStats.{CorrectionStats}

-- each count is at most n
pub record AtMost (n : ℕ) (g : CorrectionStats) : Type 0 where
  pub overlapping : g.overlapping ≤ n
  pub agreeing : g.agreeing ≤ n
  pub disagreeing : g.disagreeing ≤ n
  pub corrected : g.corrected ≤ n

-- each count can grow by n
pub record Room (g : CorrectionStats) (n : ℕ) : Type 0 where
  pub overlapping : g.overlapping + n < 18446744073709551616
  pub agreeing : g.agreeing + n < 18446744073709551616
  pub disagreeing : g.disagreeing + n < 18446744073709551616
  pub corrected : g.corrected + n < 18446744073709551616

-- each sum fits
pub record Adds (g h : CorrectionStats) : Type 0 where
  pub overlapping : g.overlapping + h.overlapping < 18446744073709551616
  pub agreeing : g.agreeing + h.agreeing < 18446744073709551616
  pub disagreeing : g.disagreeing + h.disagreeing < 18446744073709551616
  pub corrected : g.corrected + h.corrected < 18446744073709551616
