-- The frames and then the trailer in the output: together the corrected filed group, and behind it what stood there.
use Rattle.std.specs.Prelude.{Result, Ok}
use Rattle.refusal.specs.declared.Refusal.{Refusal}
use Prim.Native.Nat.{ℕ, ◌+◌, ◌-◌, ◌≤◌}
use mathlib.Core.Path.{◌≡◌, sym, ◌∙◌, ap, ap₂, subst}
use mathlib.Core.List.{List, ◌++◌, append_assoc}
use native.Mathlib.Omega.{arith}
use lib.ListN.{length, get_or, take, drop, length-drop}
use lib.Seq.{take_all, drop-drop, length-take-le}
use Rattle.stats.specs.declared.CorrectionStats.{CorrectionStats}
use Rattle.stats.specs.Counts.{zeroed}
use Rattle.stats.specs.Room.{AtMost}
use Rattle.strategy.specs.declared.Strategies.{Strategies}
use Rattle.group_frames.specs.Part.{part, splice}
use Rattle.group_frames.specs.Frame.{begin_of, frames_of}
use Rattle.group_frames.specs.Table.{FrameTable}
use Rattle.group_frames.specs.declared.Frames.{Frames}
use Rattle.group_mates.specs.Register.{pairs_of}
use Rattle.group_applying.specs.declared.Applied.{Applied}
use Rattle.group_applying.specs.Applied.{grown}
use Rattle.filed_writing.specs.Written.{corrected, WrittenTo}
use Rattle.filed_writing.proofs.RecordLaws.{corrected_size}
use Rattle.filed_writing.proofs.GrowthLaws.{all_most}
use Rattle.filed_ending.specs.Found.{FramesEnd, Found}
use Rattle.filed_trailer.specs.Trailer.{stamped}
use Rattle.filed.specs.Final.{Final, FiledTo, Before}

-- where the frames end, by their table
pub table_end : (s begins : List ℕ) (n : ℕ) → FramesEnd s begins n → get_or begins n 0 ≡ begin_of s n
table_end s begins n e = e.placed.places n (omega arith) ∙ e.begin

pub found_at : (s begins : List ℕ) (x : Result ℕ Refusal) (n : ℕ) → x ≡ Ok n → Found s begins x → FramesEnd s begins n
found_at s begins x n e f = subst (Found s begins) e f

module _ (f : Frames) (s : List ℕ) (b : Before f s) where
  abbrev n : ℕ
  n = f.count

  abbrev p : ℕ
  p = begin_of s f.count

  pub front_length : length f.bytes.now ≡ p
  front_length = ap length b.bytes ∙ length-take-le p s (omega (arith, b.ends.left))

  pub front_placed : FrameTable f.bytes.now f.begins.now n
  front_placed = rw b.bytes b.ends.placed

  pub front_end : begin_of f.bytes.now n ≡ p
  front_end = rw b.bytes b.ends.begin

  pub front_whole : frames_of (take p s) ≡ Ok n
  front_whole = b.ends.whole

  module _ (w : Strategies) (out out₁ : List ℕ) (r : Applied) (to : WrittenTo w f.bytes.now n out out₁ r) where
    to_front : WrittenTo w (take p s) n out out₁ r
    to_front = rw b.bytes at to

    begin_is : begin_of (take p s) n ≡ p
    begin_is = b.ends.begin

    take_length : length (take p s) ≡ p
    take_length = length-take-le p s (omega (arith, b.ends.left))

    fits : length (corrected w (take p s) n) ≡ p
    fits = corrected_size w (take p s) n (omega (arith, begin_is, take_length)) ∙ take_length

    -- the frames stand as they will stay
    frames_final : take p out₁ ≡ corrected w (take p s) n
    frames_final = (rw begin_is at to_front.front) ∙ take_all p (corrected w (take p s) n) (omega (arith, fits))

    pub final : Final (take (length f.bytes.now) s) out₁ (length f.bytes.now) r.stats
    final =
        rw front_length (record { strategies = w; records = n; whole = front_whole; front = rw begin_is at to_front.front; growth = to_front.stats })

    pub filed_to : (out₂ : List ℕ) → out₂ ≡ splice out₁ p (p + 50) (stamped (part s p (p + 50)) r.stats) → FiledTo w s p n out out₂ r
    filed_to out₂ e₂ =
        let z : p + 50 - p ≡ 50 = omega arith in
        let l : length (drop p s) ≡ 50 = length-drop p s ∙ omega (arith, b.size) in
        let t : part s p (p + 50) ≡ drop p s = ap (λ (k : ℕ). take k (drop p s)) z ∙ take_all 50 (drop p s) (omega arith) in
        let d : drop (p + 50 - p) (drop p out₁) ≡ drop (length s) out =
        ap₂ drop z (rw begin_is at to_front.behind) ∙ drop-drop 50 p out ∙ ap (λ (k : ℕ). drop k out) (sym b.size) in
        record {
          bytes = e₂
              ∙ (λ i. frames_final i ++ (stamped (t i) r.stats ++ d i))
              ∙ sym (append_assoc (corrected w (take p s) n) (stamped (drop p s) r.stats) (drop (length s) out));
          pairs = to_front.pairs;
          overlapping = to_front.overlapping;
          stats = to_front.stats;
        }

-- what a group adds is no more than a group can add
pub growth_most : (w : Strategies) (s : List ℕ) (n : ℕ) (h : CorrectionStats) → n ≤ 256 → h ≡ grown w s (pairs_of s n) zeroed → AtMost 16777216 h
growth_most w s n h few e = rw e (all_most w s n few)
