-- What the table holds where the frames end.
use Rattle.refusal.specs.declared.Refusal.{Refusal}
use Rattle.std.specs.Prelude.{ℕ, ◌+◌, ◌≤◌, ◌≡◌, List, length, take, Result, Ok, Err}
use Rattle.group_frames.specs.Frame.{begin_of, frames_of}
use Rattle.group_frames.specs.Table.{FrameTable}

-- n frames and then four zero bytes: where they end, and the table of the frames alone
pub record FramesEnd (s begins : List ℕ) (n : ℕ) : Type 0 where
  pub placed : FrameTable (take (begin_of s n) s) begins n
  pub begin : begin_of (take (begin_of s n) s) n ≡ begin_of s n
  pub left : begin_of s n + 4 ≤ length s
  pub whole : frames_of (take (begin_of s n) s) ≡ Ok n

-- frames that end fill it
abbrev pub Found : List ℕ → List ℕ → Result ℕ Refusal → Type 0
Found s begins (Ok n) = FramesEnd s begins n
Found s begins (Err r) = Unit {0}
