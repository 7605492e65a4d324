-- A pair that was judged, treated with counts from zero, is what the pair call makes of it with counts from zero.
use Prim.Native.Nat.{ℕ, ◌*◌}
use mathlib.Core.Path.{◌≡◌, refl, ◌∙◌, ap}
use mathlib.Core.List.{List}
use native.Mathlib.Omega.{arith}
use Rattle.stats.specs.declared.CorrectionStats.{CorrectionStats}
use Rattle.stats.specs.Counts.{zeroed}
use Rattle.stats.specs.Room.{Room}
use Rattle.stats.proofs.CountLaws.{room_less, full_room}
use Rattle.strategy.specs.declared.Strategies.{Strategies}
use Rattle.positions.specs.Step.{state}
use Rattle.pair_merge.specs.declared.Met.{Met}
use Rattle.pair_judgement.specs.Where.{where_of}
use Rattle.pair_judgement.specs.Ready.{Cleared, TreatedAt}
use Rattle.pair.specs.Pair.{Outcome, outcome, records_of}
use Rattle.pair.proofs.ClearedLaws.{met_answer, cleared_called}
use Rattle.group_applying.specs.declared.Applied.{Applied}
use Rattle.group_applying.specs.Applied.{overlap_count}
use Rattle.group_applying.specs.Within.{overlap_of}
use Rattle.group_applying.proofs.PutLaws.{overlap_met}
use Rattle.filed_writing.specs.Written.{applied, Treats}

-- counts from zero have room for any pair
pub zero_room : (z : CorrectionStats) → z ≡ zeroed → Room z 131072
zero_room z e = rw e (room_less zeroed 131072 (128 * 131072) (omega arith) (full_room zeroed refl))

pub treats : (w : Strategies) (a b : List ℕ) → Cleared a b → (z : CorrectionStats) → z ≡ zeroed → (r : Met) (a' b' : List ℕ)
    → TreatedAt (where_of a b) w (state a b z) (state a' b' r.stats) r.shared
    → (x : Applied) → (x.pairs ≡ 1) × (x.overlapping ≡ overlap_of r.shared) × (x.stats ≡ r.stats) → Treats w a b a' b' x
treats w a b k z ez r a' b' q x is =
    let called = cleared_called w (state a b zeroed) k (state a' b' r.stats) r.shared (rw ez at q) in
    let o : outcome (met_answer called.0 r.shared) (state a' b' r.stats) ≡ records_of w (state a b zeroed) 1 2 = called.1 in
    let l : x.overlapping ≡ overlap_count (records_of w (state a b zeroed) 1 2).answer = is.1 ∙ overlap_met called.0 r.shared ∙ ap (λ (y : Outcome). overlap_count y.answer) o in
    let h : x.stats ≡ (records_of w (state a b zeroed) 1 2).after.stats = is.2 ∙ ap (λ (y : Outcome). y.after.stats) o in
    record {
      first = ap (λ (y : Outcome). y.after.first) o;
      second = ap (λ (y : Outcome). y.after.second) o;
      adds = λ i. applied (is.0 i) (l i) (h i);
    }
