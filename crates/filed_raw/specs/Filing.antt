-- The filing of a group: its answer, and every byte of the room for the trailer.
use Rattle.strategy.specs.declared.Strategies.{Strategies}
use Rattle.refusal.specs.declared.Refusal.{Refusal}
use Rattle.std.specs.Prelude.{ℕ, ◌+◌, ◌*◌, cond, List, ltb, length, Result, Ok, Err}
use Rattle.refusal.specs.declared.Refusal.TheVariants.{OutputShort}
use Rattle.strategy.specs.Number.{numbered_of}
use Rattle.group_frames.specs.Frame.{frames_of}
use Rattle.filed_trailer.specs.Trailer.{raw_in}

-- the answer and the room after the call
pub record Filed : Type 0 where
  pub answer : Result ℕ Refusal
  pub room : List ℕ

abbrev pub filing : Result ℕ Refusal → List ℕ → Filed
filing a t = record { answer = a; room = t }

-- the frames' refusals, then 19; else the raw trailer for the strategies w of the frames s
abbrev pub on_frames : ℕ → List ℕ → List ℕ → Result ℕ Refusal → Filed
on_frames w s out (Err r) = filing (Err r) out
on_frames w s out (Ok n) = cond (ltb (length out) 50) (filing (Err OutputShort) out) (filing (Ok n) (raw_in out w n (length s)))

-- 10, then the rest; a filed group has the cap 93
abbrev pub on_numbered : ℕ → List ℕ → List ℕ → Result Strategies Refusal → Filed
on_numbered w s out (Err r) = filing (Err r) out
on_numbered w s out (Ok x) = on_frames w s out (frames_of s)

unfoldable pub file_of : ℕ → ℕ → List ℕ → List ℕ → Filed
file_of agreement disagreement s out = on_numbered (3 * agreement + disagreement) s out (numbered_of agreement disagreement 93)
