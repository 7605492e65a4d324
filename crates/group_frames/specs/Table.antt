-- What the table of frames holds.
use Rattle.refusal.specs.declared.Refusal.{Refusal}
use Rattle.std.specs.Prelude.{ℕ, ◌+◌, ◌≤◌, ◌<◌, ◌≡◌, List, length, get_or, Result, Ok, Err}
use Rattle.fields.specs.Layout.{layout_of}
use Rattle.fields.specs.Sound.{Sound}
use Rattle.group_frames.specs.Frame.{begin_of, record_of}
use Rattle.group_frames.specs.declared.Frames.{Frames}

-- n frames lie in s, each with a sound record; the table has where each begins, and where the last ends
pub record FrameTable (s begins : List ℕ) (n : ℕ) : Type 0 where
  pub few : n ≤ 256
  pub wide : 257 ≤ length begins
  pub places : (k : ℕ) → k < n + 1 → get_or begins k 0 ≡ begin_of s k
  pub fit : begin_of s n ≤ length s
  pub sound : (k : ℕ) → k < n → Sound (record_of s k) (layout_of (record_of s k))

-- a group that is cut whole fills it
abbrev pub Filled : List ℕ → List ℕ → Result ℕ Refusal → Type 0
Filled s begins (Ok n) = FrameTable s begins n
Filled s begins (Err r) = Unit {0}

-- the bytes and the table that travel together: the frames of these bytes are so many, and in the table
abbrev pub Tabled : Frames → Type 0
Tabled f = FrameTable f.bytes.now f.begins.now f.count
