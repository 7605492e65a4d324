-- What a proof keeps of a filed group that is being written.
use Rattle.std.specs.Prelude.{ℕ, ◌+◌, ◌≡◌, List, ◌++◌, length, take, drop, Result, Ok, Err}
use Rattle.refusal.specs.declared.Refusal.{Refusal}
use Rattle.stats.specs.declared.CorrectionStats.{CorrectionStats}
use Rattle.stats.specs.Counts.{zeroed}
use Rattle.stats.specs.Room.{Adds, AtMost}
use Rattle.strategy.specs.declared.Strategies.{Strategies}
use Rattle.group_frames.specs.Frame.{begin_of, frames_of}
use Rattle.group_frames.specs.declared.Frames.{Frames}
use Rattle.filed_ending.specs.Found.{FramesEnd}
use Rattle.group_mates.specs.Register.{pairs_of}
use Rattle.group_applying.specs.declared.Applied.{Applied}
use Rattle.group_applying.specs.Applied.{grown, overlaps_in}
use Rattle.filed_writing.specs.Written.{corrected, Front}
use Rattle.filed.specs.declared.FiledAnswer.{FiledAnswer}
use Rattle.filed.specs.declared.FiledAnswer.TheVariants.{Corrected, AlreadyDone, Refused}
use Rattle.filed.specs.Filed.{corrected_with}

-- the first p bytes of the output are the frames of s as they will stay: every pair of them corrected, by some strategies, with the
-- growth g
pub record Final (s out : List ℕ) (p : ℕ) (g : CorrectionStats) : Type 0 where
  pub strategies : Strategies
  pub records : ℕ
  pub whole : frames_of s ≡ Ok records
  pub front : Front (corrected strategies s records) out p
  pub growth : g ≡ grown strategies s (pairs_of s records) zeroed

-- the n records of the filed group s, which take p bytes, are written to out with their trailer, and r says what was done
pub record FiledTo (w : Strategies) (s : List ℕ) (p n : ℕ) (out out' : List ℕ) (r : Applied) : Type 0 where
  pub bytes : out' ≡ corrected_with s p (corrected w (take p s) n) r.stats ++ drop (length s) out
  pub pairs : r.pairs ≡ length (pairs_of (take p s) n)
  pub overlapping : r.overlapping ≡ overlaps_in w (take p s) (pairs_of (take p s) n)
  pub stats : r.stats ≡ grown w (take p s) (pairs_of (take p s) n) zeroed

-- f is the frames of the filed group s, and 50 bytes stand behind them
pub record Before (f : Frames) (s : List ℕ) : Type 0 where
  pub ends : FramesEnd s f.begins.now f.count
  pub bytes : f.bytes.now ≡ take (begin_of s f.count) s
  pub size : length s ≡ begin_of s f.count + 50

-- what an answer adds to the counts is no more than a group can add
abbrev pub SlightBy : FiledAnswer → Type 0
SlightBy (Corrected n q o h) = AtMost 16777216 h
SlightBy (AlreadyDone n h) = Unit {0}
SlightBy (Refused r) = Unit {0}

abbrev pub Slight : Result FiledAnswer Refusal → Type 0
Slight (Ok a) = SlightBy a
Slight (Err r) = Unit {0}

-- and there is room for it
abbrev pub Fits : FiledAnswer → CorrectionStats → Type 0
Fits (Corrected n q o h) g = Adds g h
Fits (AlreadyDone n h) g = Unit {0}
Fits (Refused r) g = Unit {0}

abbrev pub FitsBy : Result FiledAnswer Refusal → CorrectionStats → Type 0
FitsBy (Ok a) g = Fits a g
FitsBy (Err r) g = Unit {0}
