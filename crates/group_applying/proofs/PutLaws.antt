-- A pair treated as two parts of a list, the second copied out to room and back.
use Prim.Native.Nat.{ℕ, zero, suc, ◌-◌, ◌*◌, ◌≤◌}
use mathlib.Core.Path.{◌≡◌, refl, sym, ◌∙◌, ap, ap₂}
use mathlib.Core.List.{List}
use native.Mathlib.Omega.{arith}
use borrow.Rule.Slice.PartMut.{same_len_mid}
use lib.ListN.{length}
use Rattle.stats.specs.Counts.{zeroed}
use Rattle.stats.specs.Room.{Room}
use Rattle.stats.proofs.CountLaws.{room_less, full_room}
use Rattle.strategy.specs.declared.Strategies.{Strategies}
use Rattle.positions.specs.Step.{state}
use Rattle.pair_merge.specs.declared.Met.{Met}
use Rattle.pair_judgement.specs.declared.Reason.{Reason}
use Rattle.pair_judgement.specs.Where.{where_of}
use Rattle.pair_judgement.specs.Ready.{Cleared, TreatedAt}
use Rattle.pair.specs.Pair.{Outcome, outcome}
use Rattle.pair.proofs.ClearedLaws.{met_answer, cleared_called}
use Rattle.group_frames.specs.Part.{part, splice}
use Rattle.group_frames.proofs.PartLaws.{length_part, part_put}
use Rattle.stats.specs.declared.CorrectionStats.{CorrectionStats}
use Rattle.group_applying.specs.Applied.{overlap_count}
use Rattle.group_applying.specs.Within.{call_in, Within, overlap_of, BothPut}

-- a pair overlaps where it shares a position
pub overlap_met : (r : Reason) (n : ℕ) → overlap_of n ≡ overlap_count (met_answer r n)
overlap_met r zero = refl
overlap_met r (suc n) = refl

-- and adds one at most
pub overlap_small : (n : ℕ) → overlap_of n ≤ 1
overlap_small zero = omega arith
overlap_small (suc n) = omega arith

-- the front of the room is as long as the second part
pub room_long : (s room : List ℕ) (a e b h : ℕ) → Within s (length room) a e b h → length (part room 0 (h - b)) ≡ length (part s b h)
room_long s room a e b h k =
    let z : h - b - 0 ≡ h - b = omega arith in
    length_part room 0 (h - b) (omega arith) k.room ∙ z ∙ sym (length_part s b h k.order₂ k.inside₂)

module _ (w : Strategies) (s room : List ℕ) (a e b h : ℕ) (k : Within s (length room) a e b h) (c : List ℕ) (copied : c ≡ part s b h) where
  size : length c ≡ h - b - 0
  size = ap length copied ∙ length_part s b h k.order₂ k.inside₂ ∙ omega arith

  abbrev lent : List ℕ
  lent = splice room 0 (h - b) c

  lent_is : part lent 0 (h - b) ≡ part s b h
  lent_is = part_put room c 0 (h - b) (omega arith) k.room size ∙ copied

  lent_size : length lent ≡ length room
  lent_size = same_len_mid 0 (h - b - 0) room c (size ∙ sym (length_part room 0 (h - b) (omega arith) k.room))

  -- what treating them asks, the second by its copy
  pub lent_asks : Cleared (part s a e) (part s b h) → (z : CorrectionStats) → z ≡ zeroed → Cleared (part s a e) (part (splice room 0 (h - b) c) 0 (h - b)) × Room z 131072
  lent_asks j z e = (rw lent_is j, rw e (room_less zeroed 131072 (128 * 131072) (omega arith) (full_room zeroed refl)))

  -- what stands in the end
  pub put_as : Cleared (part s a e) (part s b h) → (r : Met) (z : CorrectionStats) (f v d : List ℕ) → z ≡ zeroed
      → TreatedAt (where_of (part s a e) (part (splice room 0 (h - b) c) 0 (h - b))) w (state (part s a e) (part (splice room 0 (h - b) c) 0 (h - b)) z) (state f v r.stats) r.shared
      → length v ≡ length (part (splice room 0 (h - b) c) 0 (h - b))
      → d ≡ part (splice (splice room 0 (h - b) c) 0 (h - b) v) 0 (h - b)
      → BothPut w s a e b h (splice (splice s a e f) b h d) r
  put_as j r z f v d ez q lv ed =
      let called = cleared_called w (state (part s a e) (part s b h) zeroed) j (state f v r.stats) r.shared (rw (lent_is, ez) at q) in
      let o : outcome (met_answer called.0 r.shared) (state f v r.stats) ≡ call_in w s a e b h = called.1 in
      let i : h - b ≤ length lent = omega (arith, lent_size, k.room) in
      let back : d ≡ v = ed ∙ part_put lent v 0 (h - b) (omega arith) i (lv ∙ length_part lent 0 (h - b) (omega arith) i) in
      record {
        bytes = ap₂ (λ (x y : List ℕ). splice (splice s a e x) b h y) (ap (λ (x : Outcome). x.after.first) o) (back ∙ ap (λ (x : Outcome). x.after.second) o);
        overlap = overlap_met called.0 r.shared ∙ ap (λ (x : Outcome). overlap_count x.answer) o;
        stats = ap (λ (x : Outcome). x.after.stats) o;
      }
