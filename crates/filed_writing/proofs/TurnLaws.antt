-- One turn of the loop that writes a group: the bytes at the front, and the numbers of the pairs.
use Prim.Native.Nat.{ℕ, zero, suc, ◌+◌, ◌*◌, ◌<◌, ◌≤◌}
use mathlib.Core.Path.{◌≡◌, refl, sym, ◌∙◌}
use mathlib.Core.List.{List, []}
use native.Mathlib.Numerals.{add-one}
use native.Mathlib.Omega.{arith}
use lib.ListN.{length, drop}
use Rattle.stats.specs.Counts.{zeroed, plus}
use Rattle.stats.specs.Room.{Room, AtMost}
use Rattle.stats.proofs.CountLaws.{counts_as, room_less, room_plus, room_adds}
use Rattle.strategy.specs.declared.Strategies.{Strategies}
use Rattle.pair.specs.declared.Answer.{Answer}
use Rattle.pair.specs.declared.Answer.TheVariants.{NoOverlap, Overlap, Refused}
use Rattle.group_frames.specs.Frame.{begin_of, end_of, record_of}
use Rattle.group_frames.proofs.PlaceLaws.{begin_mono}
use Rattle.group_mates.specs.Register.{mates_of, mate_cons, pairs_of}
use Rattle.group_mates.proofs.OnceLaws.{pairs_half}
use Rattle.group_verdicts.specs.Judged.{pair_at}
use Rattle.group_verdicts.proofs.JudgeLaws.{pairs_turn, pairs_start, pairs_end}
use Rattle.group_applying.specs.declared.Applied.{Applied}
use Rattle.group_applying.specs.Applied.{grown, overlap_count, overlaps_in}
use Rattle.group_applying.proofs.ApplyLaws.{rest}
use Rattle.group_applying.proofs.CallLaws.{call_most}
use Rattle.filed_writing.specs.Turn.{Wrote, together, Fitting}
use Rattle.filed_writing.specs.Written.{corrected, Front, applied, added_by, WrittenTo}
use Rattle.filed_writing.proofs.FrontLaws.{behind_later}

-- ---- the numbers a of what is written, with the pairs l still to write
pub record Counting (w : Strategies) (s : List ℕ) (n : ℕ) (l : List (ℕ × ℕ)) (a : Applied) : Type 0 where
  pub room : Room a.stats (131072 * length l)
  pub counts : grown w s l a.stats ≡ grown w s (pairs_of s n) zeroed
  pub pairs : a.pairs + length l ≡ length (pairs_of s n)
  pub overlaps : a.overlapping + overlaps_in w s l ≡ overlaps_in w s (pairs_of s n)
  pub few : a.pairs + length l ≤ 128
  pub fewer : a.overlapping ≤ a.pairs

pub counting_start : (w : Strategies) (s : List ℕ) (n : ℕ) (a : Applied) → n ≤ 256 → a ≡ applied 0 0 zeroed → Counting w s n (rest s n 0) a
counting_start w s n a few e =
    let h = pairs_half s n in
    rw (pairs_start (mates_of s n) n, e) (record {
      room = record { overlapping = omega (arith, h); agreeing = omega (arith, h); disagreeing = omega (arith, h); corrected = omega (arith, h) };
      counts = refl;
      pairs = omega arith;
      overlaps = omega arith;
      few = omega (arith, h);
      fewer = omega arith;
    })

overlap_one : (a : Answer) → overlap_count a ≤ 1
overlap_one (NoOverlap r) = omega arith
overlap_one Overlap = omega arith
overlap_one (Refused r) = omega arith

-- what a record adds fits, and leaves the pairs l
pub record Step (w : Strategies) (s : List ℕ) (n : ℕ) (l : List (ℕ × ℕ)) (a one : Applied) : Type 0 where
  pub fits : Fitting a one
  pub next : Counting w s n l (together a one)

-- no pair adds nothing
together_none : (a : Applied) → together a (applied 0 0 zeroed) ≡ a
together_none a =
    let p : a.pairs + 0 ≡ a.pairs = omega arith in
    let o : a.overlapping + 0 ≡ a.overlapping = omega arith in
    let g = counts_as (plus a.stats zeroed) a.stats (omega arith) (omega arith) (omega arith) (omega arith) in
    λ i. applied (p i) (o i) (g i)

step : (w : Strategies) (s : List ℕ) (n k : ℕ) (l : List (ℕ × ℕ)) (a : Applied) (m : ℕ) → Counting w s n (mate_cons k m l) a → Step w s n l a (added_by w s k m)
unfolding grown overlaps_in
step w s n k l a zero c =
    let none : AtMost (131072 * length l) zeroed = record { overlapping = omega arith; agreeing = omega arith; disagreeing = omega arith; corrected = omega arith } in
    record {
      fits = record { pairs = omega (arith, c.few); overlapping = omega (arith, c.few, c.fewer); stats = room_adds a.stats zeroed (131072 * length l) c.room none };
      next = rw (together_none a) c;
    }
step w s n k l a (suc j) c =
    let g = a.stats in
    let most = call_most w (record_of s k) (record_of s j) in
    let few = overlap_one (pair_at w s k j).answer in
    record {
      fits = record {
        pairs = omega (arith, c.few);
        overlapping = omega (arith, c.few, c.fewer, few);
        stats = room_adds g (pair_at w s k j).after.stats 131072 (room_less g 131072 (131072 * suc (length l)) (omega arith) c.room) most;
      };
      next = record {
        room = room_plus g (pair_at w s k j).after.stats (131072 * length l) 131072 (room_less g (131072 * length l + 131072) (131072 * suc (length l)) (omega arith) c.room) most;
        counts = c.counts;
        pairs = omega (arith, c.pairs);
        overlaps = omega (arith, c.overlaps);
        few = omega (arith, c.few);
        fewer = omega (arith, c.fewer, few);
      };
    }

-- ---- the bytes, with k records written into out₀
pub record Filling (w : Strategies) (s : List ℕ) (n k : ℕ) (out₀ out : List ℕ) : Type 0 where
  pub front : Front (corrected w s n) out (begin_of s k)
  pub behind : drop (begin_of s k) out ≡ drop (begin_of s k) out₀
  pub size : length out ≡ length out₀

pub filling_start : (w : Strategies) (s : List ℕ) (n : ℕ) (out : List ℕ) → Filling w s n 0 out out
unfolding begin_of
filling_start w s n out = record { front = refl; behind = refl; size = refl }

-- ---- record k is written from out to out', and adds r
module _ (w : Strategies) (s : List ℕ) (n k : ℕ) (below : k < n) (out out' : List ℕ) (r : Applied) (d : Wrote w s n k out out' r) where
  module _ (a : Applied) (c : Counting w s n (rest s n k) a) where
    turn_step : Step w s n (rest s n (k + 1)) a r
    turn_step =
        rw d.adds (step w s n k (rest s n (k + 1)) a (mates_of s n k) (rw (pairs_turn (mates_of s n) n k (mates_of s n k) below refl) at c))

    pub turn_fits : Fitting a r
    turn_fits = turn_step.fits

    pub turn_counted : (b : Applied) → b ≡ together a r → Counting w s n (rest s n (k + 1)) b
    turn_counted b e = rw e turn_step.next

  pub turn_filled : (out₀ : List ℕ) → Filling w s n k out₀ out → length out' ≡ length out → Filling w s n (k + 1) out₀ out'
  unfolding end_of
  turn_filled out₀ a l =
      let e : end_of s k ≡ begin_of s (k + 1) = rw add-one refl in
      record {
        front = rw (sym e) d.front;
        behind = rw (sym e) (d.behind ∙ behind_later out out₀ (begin_of s k) (end_of s k) (omega (arith, e, begin_mono s k (k + 1) (omega arith))) a.behind);
        size = l ∙ a.size;
      }

-- ---- all are written
pub written_all : (w : Strategies) (s : List ℕ) (n k : ℕ) (out₀ out : List ℕ) (r : Applied) → Filling w s n k out₀ out → Counting w s n (rest s n k) r → n ≤ k → k ≤ n
    → WrittenTo w s n out₀ out r
unfolding grown overlaps_in
written_all w s n k out₀ out r a c h g =
    let e : k ≡ n = omega arith in
    let b : Filling w s n n out₀ out = rw e at a in
    let d : Counting w s n [] r = rw (pairs_end (mates_of s n) n k h) at c in
    record { front = b.front; behind = b.behind; pairs = omega (arith, d.pairs); overlapping = omega (arith, d.overlaps); stats = d.counts }
