-- One turn of the loop that treats the pairs.
use Rattle.std.specs.Prelude.{Ok}
use Prim.Native.Nat.{ℕ, suc, ◌+◌, ◌-◌, ◌*◌, ◌<◌, ◌≤◌}
use mathlib.Core.Path.{◌≡◌, refl, ◌∙◌, ap, ap₂}
use mathlib.Core.List.{List, [], ◌∷◌}
use native.Mathlib.Omega.{arith}
use lib.ListN.{length}
use Rattle.stats.specs.declared.CorrectionStats.{CorrectionStats}
use Rattle.stats.specs.Counts.{zeroed, plus}
use Rattle.stats.specs.Room.{Room, Adds, AtMost}
use Rattle.stats.proofs.CountLaws.{room_less, room_plus, room_adds}
use Rattle.strategy.specs.declared.Strategies.{Strategies}
use Rattle.positions.specs.Step.{state}
use Rattle.pair_merge.specs.declared.Met.{Met}
use Rattle.pair.specs.declared.Answer.{Answer}
use Rattle.pair.specs.declared.Answer.TheVariants.{NoOverlap, Overlap, Refused}
use Rattle.pair.specs.Pair.{Outcome, records_of}
use Rattle.group_frames.specs.Part.{part}
use Rattle.group_frames.specs.Frame.{start_of, end_of, record_of}
use Rattle.group_frames.specs.Table.{FrameTable}
use Rattle.group_frames.proofs.PartLaws.{length_part}
use Rattle.group_frames.proofs.PlaceLaws.{at_start, at_end, at_order, at_in}
use Rattle.group_mates.specs.Register.{mates_of, mate_cons, pairs_from, pairs_of}
use Rattle.group_mates.specs.Promise.{times, Once}
use Rattle.group_mates.proofs.OnceLaws.{pairs_once, pairs_half}
use Rattle.group_verdicts.specs.Judged.{pair_at, judge_by}
use Rattle.group_verdicts.specs.Indexed.{indexed_at}
use Rattle.group_verdicts.proofs.IndexLaws.{passed_cleared, first_passed}
use Rattle.group_verdicts.proofs.JudgeLaws.{Entry, pairs_turn, pairs_start, pairs_end}
use Rattle.group_applying.specs.declared.Applied.{Applied}
use Rattle.group_applying.specs.Applied.{written, grown, overlap_count, overlaps_in, AppliedTo}
use Rattle.group_applying.specs.Within.{start_in, end_in, call_in, Given, overlap_of, BothPut}
use Rattle.group_applying.proofs.CallLaws.{call_most}
use Rattle.group_applying.proofs.WrittenLaws.{stepped, step_size, step_other, second_in, once_rest, first_there, second_there, later_there, first_not_later, second_not_later}

-- with the pairs l still to treat, which passed: s and g as they stand, p pairs treated, of which o overlap
pub record Applying (w : Strategies) (s₀ : List ℕ) (g₀ : CorrectionStats) (n : ℕ) (l : List (ℕ × ℕ)) (s : List ℕ) (g : CorrectionStats) (p o : ℕ) : Type 0 where
  pub size : length s ≡ length s₀
  pub once : Once n l
  pub fresh : (j : ℕ) → 0 < times l j → part s (start_of s₀ j) (end_of s₀ j) ≡ record_of s₀ j
  pub passed : judge_by (indexed_at s₀) l ≡ Ok tt
  pub room : Room g (131072 * length l)
  pub bytes : written w s₀ l s ≡ written w s₀ (pairs_of s₀ n) s₀
  pub counts : grown w s₀ l g ≡ grown w s₀ (pairs_of s₀ n) g₀
  pub pairs : p + length l ≡ length (pairs_of s₀ n)
  pub overlaps : o + overlaps_in w s₀ l ≡ overlaps_in w s₀ (pairs_of s₀ n)
  pub few : p + length l ≤ 128
  pub fewer : o ≤ p

abbrev pub rest : List ℕ → ℕ → ℕ → List (ℕ × ℕ)
rest s n i = pairs_from (mates_of s n) i (n - i)

pub applying_start : (w : Strategies) (s : List ℕ) (g : CorrectionStats) (n : ℕ) → n ≤ 256 → Room g (128 * 131072) → judge_by (indexed_at s) (pairs_of s n) ≡ Ok tt
    → Applying w s g n (rest s n 0) s g 0 0
applying_start w s g n few r v =
    let h = pairs_half s n in
    rw (pairs_start (mates_of s n) n) (record {
      size = refl;
      once = pairs_once s n;
      fresh = λ j t. refl;
      passed = v;
      room = room_less g (131072 * length (pairs_of s n)) (128 * 131072) (omega (arith, h)) r;
      bytes = refl;
      counts = refl;
      pairs = omega arith;
      overlaps = omega arith;
      few = omega (arith, h);
      fewer = omega arith;
    })

overlap_one : (a : Answer) → overlap_count a ≤ 1
overlap_one (NoOverlap r) = omega arith
overlap_one Overlap = omega arith
overlap_one (Refused r) = omega arith

module _ (w : Strategies) (s₀ : List ℕ) (g₀ : CorrectionStats) (n i : ℕ) (s : List ℕ) (g : CorrectionStats) (p o : ℕ)
    (a : Applying w s₀ g₀ n (rest s₀ n i) s g p o) (below : i < n) (m : ℕ) (e : m ≡ mates_of s₀ n i) where
  pub applying_alone : m ≡ 0 → Applying w s₀ g₀ n (rest s₀ n (i + 1)) s g p o
  applying_alone z = rw (pairs_turn (mates_of s₀ n) n i m below e ∙ ap (λ (x : ℕ). mate_cons i x (rest s₀ n (i + 1))) z) at a

  module _ (j : ℕ) (some : Entry m j) where
    abbrev l : List (ℕ × ℕ)
    l = rest s₀ n (i + 1)

    now_at : Applying w s₀ g₀ n ((i, j) ∷ l) s g p o
    now_at =
        let u : m ≡ suc j = omega (arith, some.0, some.1) in
        rw (pairs_turn (mates_of s₀ n) n i m below e ∙ ap (λ (x : ℕ). mate_cons i x (rest s₀ n (i + 1))) u) at a

    mate_below : j < n
    mate_below = second_in n (i, j) l now_at.once

    pub few_more : p < 128
    few_more = omega (arith, now_at.few)

    module _ (begins : List ℕ) (t : FrameTable s₀ begins n) where
      start₁ : start_in begins i ≡ start_of s₀ i
      start₁ = at_start s₀ begins n t i below

      end₁ : end_in begins i ≡ end_of s₀ i
      end₁ = at_end s₀ begins n t i below

      start₂ : start_in begins j ≡ start_of s₀ j
      start₂ = at_start s₀ begins n t j mate_below

      end₂ : end_in begins j ≡ end_of s₀ j
      end₂ = at_end s₀ begins n t j mate_below

      part₁ : part s (start_in begins i) (end_in begins i) ≡ record_of s₀ i
      part₁ = ap₂ (part s) start₁ end₁ ∙ now_at.fresh i (first_there n (i, j) l)

      part₂ : part s (start_in begins j) (end_in begins j) ≡ record_of s₀ j
      part₂ = ap₂ (part s) start₂ end₂ ∙ now_at.fresh j (second_there n (i, j) l)

      order₂ : start_in begins j ≤ end_in begins j
      order₂ = at_order s₀ begins n t j mate_below

      inside₂ : end_in begins j ≤ length s
      inside₂ = omega (arith, at_in s₀ begins n t j mate_below, a.size)

      pub given : (z : ℕ) → 65536 ≤ z → Given s z begins i j
      given z h = record {
        few₁ = omega (arith, t.few);
        few₂ = omega (arith, t.few, mate_below);
        wide = t.wide;
        within = record {
          order₁ = at_order s₀ begins n t i below;
          order₂ = order₂;
          inside₁ = omega (arith, at_in s₀ begins n t i below, a.size);
          inside₂ = inside₂;
          room = omega (arith, (t.sound j mate_below).allowed, ap length part₂, length_part s (start_in begins j) (end_in begins j) order₂ inside₂);
        };
        cleared = rw (part₁, part₂) (passed_cleared (record_of s₀ i) (record_of s₀ j) i j (first_passed (indexed_at s₀) (i, j) l now_at.passed).0);
      }

      module _ (s' : List ℕ) (r : Met) (put : BothPut w s (start_in begins i) (end_in begins i) (start_in begins j) (end_in begins j) s' r) where
        call_is : call_in w s (start_in begins i) (end_in begins i) (start_in begins j) (end_in begins j) ≡ pair_at w s₀ i j
        call_is = ap₂ (λ (x y : List ℕ). records_of w (state x y zeroed) 1 2) part₁ part₂

        stats_is : r.stats ≡ (pair_at w s₀ i j).after.stats
        stats_is = put.stats ∙ ap (λ (x : Outcome). x.after.stats) call_is

        most : AtMost 131072 r.stats
        most = rw stats_is (call_most w (record_of s₀ i) (record_of s₀ j))

        pub adds : Adds g r.stats
        adds = room_adds g r.stats 131072 (room_less g 131072 (131072 * suc (length l)) (omega arith) now_at.room) most

        bytes_is : s' ≡ stepped w s₀ s (i, j)
        bytes_is = rw (call_is, start₁, end₁, start₂, end₂) at put.bytes

        pub applying_next : (o' : ℕ) → o' ≡ overlap_of r.shared → (g' : CorrectionStats) → g' ≡ plus g r.stats → Applying w s₀ g₀ n l s' g' (p + 1) (o + o')
        unfolding written grown overlaps_in
        applying_next o' eo g' eg =
            let v = now_at in
            let ans : o' ≡ overlap_count (pair_at w s₀ i j).answer = eo ∙ put.overlap ∙ ap (λ (x : Outcome). overlap_count x.answer) call_is in
            let sum : g' ≡ plus g (pair_at w s₀ i j).after.stats = eg ∙ ap (plus g) stats_is in
            record {
              size = ap length bytes_is ∙ step_size w s₀ n t.fit s a.size (i, j) below mate_below;
              once = once_rest n (i, j) l v.once;
              fresh = λ h b. ap (λ (x : List ℕ). part x (start_of s₀ h) (end_of s₀ h)) bytes_is
                  ∙ step_other w s₀ n t.fit s a.size (i, j) below mate_below h (first_not_later n (i, j) l v.once h b) (second_not_later n (i, j) l v.once h b)
                  ∙ v.fresh h (later_there n (i, j) l h b);
              passed = (first_passed (indexed_at s₀) (i, j) l v.passed).1;
              room = rw eg (room_plus g r.stats (131072 * length l) 131072 (room_less g (131072 * length l + 131072) (131072 * suc (length l)) (omega arith) v.room) most);
              bytes = ap (written w s₀ l) bytes_is ∙ v.bytes;
              counts = ap (grown w s₀ l) sum ∙ v.counts;
              pairs = omega (arith, v.pairs);
              overlaps = omega (arith, v.overlaps, ans);
              few = omega (arith, v.few);
              fewer = omega (arith, ans, overlap_one (pair_at w s₀ i j).answer, a.fewer);
            }

pub applying_end : (w : Strategies) (s₀ : List ℕ) (g₀ : CorrectionStats) (n i : ℕ) (s : List ℕ) (r : Applied) → Applying w s₀ g₀ n (rest s₀ n i) s r.stats r.pairs r.overlapping → n ≤ i
    → AppliedTo w s₀ (pairs_of s₀ n) g₀ s r
unfolding written grown overlaps_in
applying_end w s₀ g₀ n i s r a h =
    let b : Applying w s₀ g₀ n [] s r.stats r.pairs r.overlapping = rw (pairs_end (mates_of s₀ n) n i h) at a in
    record { bytes = b.bytes; stats = b.counts; pairs = omega (arith, b.pairs); overlapping = omega (arith, b.overlaps) }
