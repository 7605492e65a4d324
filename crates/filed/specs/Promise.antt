-- What a reader is promised of filed groups: nothing is written unless one is corrected, a torn output is refused, and a whole one is known.
use Rattle.std.specs.Prelude.{ℕ, ◌+◌, ◌<◌, false, List, ◌≡◌, length, take, Ok}
use Rattle.refusal.specs.declared.Refusal.{Refusal}
use Rattle.stats.specs.declared.CorrectionStats.{CorrectionStats}
use Rattle.stats.specs.Counts.{plus, full}
use Rattle.group_frames.specs.Frame.{begin_of}
use Rattle.filed_ending.specs.Ending.{ending_of}
use Rattle.filed_trailer.specs.Trailer.{trailer_at, wrong}
use Rattle.filed.specs.declared.FiledAnswer.{FiledAnswer}
use Rattle.filed.specs.declared.FiledAnswer.TheVariants.{Corrected, AlreadyDone, Refused}
use Rattle.filed.specs.Filed.{Ended, ended, filed_of}

-- unless a group was corrected, the output and the counts are as they came; else the counts grew by what is answered
abbrev pub KeptBy : List ℕ → CorrectionStats → FiledAnswer → Ended → Type 0
KeptBy out g (Corrected n q o h) e = e.stats ≡ plus g h
KeptBy out g (AlreadyDone n h) e = (e.bytes ≡ out) × (e.stats ≡ g)
KeptBy out g (Refused r) e = (e.bytes ≡ out) × (e.stats ≡ g)

abbrev pub Kept : List ℕ → CorrectionStats → Ended → Type 0
Kept out g e = KeptBy out g e.answer e

-- the bytes x are refused, whatever output and counts are lent
pub record Torn (x : List ℕ) : Type 0 where
  pub refused : (out : List ℕ) (g : CorrectionStats) → (r : Refusal) × (filed_of x out g ≡ ended (Refused r) out g)

-- the bytes z are answered "already done" with n records and the growth h, and neither output nor counts change
pub record Known (z : List ℕ) (n : ℕ) (h : CorrectionStats) : Type 0 where
  pub known : (out : List ℕ) (g : CorrectionStats) → full g ≡ false → filed_of z out g ≡ ended (AlreadyDone n h) out g

-- n frames and a trailer of 50 bytes are all of s, no field of the trailer is wrong, and it says "corrected" with the growth h
pub record MarkedDone (s : List ℕ) (n : ℕ) (h : CorrectionStats) : Type 0 where
  pub ends : ending_of s ≡ Ok n
  pub size : length s ≡ begin_of s n + 50
  pub right : wrong (trailer_at s (begin_of s n)) n (begin_of s n) ≡ false
  pub state : (trailer_at s (begin_of s n)).state ≡ 1
  pub growth : h ≡ (trailer_at s (begin_of s n)).growth

-- the trailer behind the n frames of s says "raw", whatever else it says
pub record MarkedRaw (s : List ℕ) (n : ℕ) : Type 0 where
  pub ends : ending_of s ≡ Ok n
  pub state : (trailer_at s (begin_of s n)).state ≡ 0

-- z is what a call wrote for n records with the growth h: no proper front of it passes, and all of it is known
pub record Safe (z : List ℕ) (n : ℕ) (h : CorrectionStats) : Type 0 where
  pub torn : (k : ℕ) → k < length z → Torn (take k z)
  pub whole : Known z n h
