-- Frames end to end: a u32 size, then that many bytes. At most 256.
use Rattle.fields.specs.declared.Layout.{Layout}
use Rattle.refusal.specs.declared.Refusal.{Refusal}
use Rattle.std.specs.Prelude.{ℕ, zero, suc, ◌+◌, cond, List, ltb, length, Result, Ok, Err}
use Rattle.refusal.specs.declared.Refusal.TheVariants as Why
use Rattle.fields.specs.Number.{unsigned}
use Rattle.fields.specs.Check.{check_of}
use Rattle.group_frames.specs.Part.{part, splice}

-- where a frame that begins at p ends
abbrev pub frame_end : List ℕ → ℕ → ℕ
frame_end s p = p + 4 + unsigned 4 s p

-- where frame k begins
unfoldable pub begin_of : List ℕ → ℕ → ℕ
begin_of s zero = 0
begin_of s (suc k) = frame_end s (begin_of s k)

-- where record k starts and ends, and its bytes
unfoldable pub start_of : List ℕ → ℕ → ℕ
start_of s k = begin_of s k + 4

unfoldable pub end_of : List ℕ → ℕ → ℕ
end_of s k = begin_of s (suc k)

abbrev pub record_of : List ℕ → ℕ → List ℕ
record_of s k = part s (start_of s k) (end_of s k)

-- the bytes s with x in the place of record k of the group s₀
abbrev pub put_record : List ℕ → List ℕ → ℕ → List ℕ → List ℕ
put_record s₀ s k x = splice s (start_of s₀ k) (end_of s₀ k) x

-- 1 to 4: the record, checked for the place k
abbrev pub on_checked : Result Layout Refusal → ℕ → Result ℕ Refusal
on_checked (Ok y) end = Ok end
on_checked (Err r) end = Err r

-- 11: 1 to 3 bytes left for a size, or a size past the end; then 1 to 4
unfoldable pub frame_of : List ℕ → ℕ → ℕ → Result ℕ Refusal
frame_of s p k =
    cond (ltb (length s) (p + 4)) (Err (Why.Frame k))
    (cond (ltb (length s) (frame_end s p)) (Err (Why.Frame k))
    (on_checked (check_of (part s (p + 4) (frame_end s p)) k) (frame_end s p)))

-- what goes on behind a frame without a fault
abbrev pub on_frame : Result ℕ Refusal → Result ℕ Refusal → Result ℕ Refusal
on_frame (Ok end) rest = rest
on_frame (Err r) rest = Err r

-- the frames from the k-th on, where m more may come; 12: bytes left after the last of them
unfoldable pub frames_from : List ℕ → ℕ → ℕ → Result ℕ Refusal
frames_from s zero k = cond (ltb (begin_of s k) (length s)) (Err Why.TooManyRecords) (Ok k)
frames_from s (suc m) k = cond (ltb (begin_of s k) (length s)) (on_frame (frame_of s (begin_of s k) k) (frames_from s m (suc k))) (Ok k)

abbrev pub frames_of : List ℕ → Result ℕ Refusal
frames_of s = frames_from s 256 0
