-- Frames end to end, and then four zero bytes where a size would stand.
use Rattle.refusal.specs.declared.Refusal.{Refusal}
use Rattle.std.specs.Prelude.{ℕ, zero, suc, ◌+◌, Bool, false, cond, List, ltb, eqb, length, Result, Ok, Err}
use Rattle.refusal.specs.declared.Refusal.TheVariants.{TooManyRecords, TrailerMissing}
use Rattle.fields.specs.Number.{unsigned}
use Rattle.group_frames.specs.Frame.{begin_of, frame_of}

-- four zero bytes stand at p
abbrev pub zero_at : List ℕ → ℕ → Bool
zero_at s p = cond (ltb (length s) (p + 4)) false (eqb (unsigned 4 s p) 0)

-- whether the frames end at p, with bytes left there
abbrev pub ends_at : List ℕ → ℕ → Result Bool Refusal
ends_at s p = cond (ltb p (length s)) (Ok (zero_at s p)) (Err TrailerMissing)

-- with bytes left for frame k: a zero size ends the frames, before all else
abbrev pub on_left : List ℕ → ℕ → Result ℕ Refusal → Result ℕ Refusal
on_left s k rest = cond (ltb (begin_of s k) (length s)) (cond (zero_at s (begin_of s k)) (Ok k) rest) (Err TrailerMissing)

-- what goes on behind a frame without a fault
abbrev pub on_frame : Result ℕ Refusal → Result ℕ Refusal → Result ℕ Refusal
on_frame (Ok end) rest = rest
on_frame (Err r) rest = Err r

-- how the frames end from the k-th on, where m more may come; 12: bytes left after the last of them
unfoldable pub ending_from : List ℕ → ℕ → ℕ → Result ℕ Refusal
ending_from s zero k = on_left s k (Err TooManyRecords)
ending_from s (suc m) k = on_left s k (on_frame (frame_of s (begin_of s k) k) (ending_from s m (suc k)))

-- how the frames of a filed group end
abbrev pub ending_of : List ℕ → Result ℕ Refusal
ending_of s = ending_from s 256 0
