-- What any pair call keeps: the lengths of both records; and by how much its counts can grow.
use Rattle.std.specs.Prelude.{Result, Ok, Err}
use Rattle.refusal.specs.declared.Refusal.{Refusal}
use Rattle.pair_judgement.specs.declared.Untreated.TheVariants as Untreateds
use Prim.Native.Nat.{ℕ, suc, ◌+◌, ◌-◌, ◌*◌, ◌≤◌}
use mathlib.Core.Path.{◌≡◌, refl}
use mathlib.Core.Bool.{Bool, true, false}
use mathlib.Core.List.{List, [], ◌∷◌}
use native.Mathlib.Omega.{arith}
use lib.ListN.{length}
use Rattle.fields.specs.declared.Layout.{Layout}
use Rattle.fields.specs.Check.{check_of}
use Rattle.fields.proofs.CheckLaws.{good_sound}
use Rattle.stats.specs.Counts.{zeroed}
use Rattle.stats.specs.Room.{AtMost}
use Rattle.stats.proofs.CountLaws.{most_less, most_plus}
use Rattle.strategy.specs.declared.Strategies.{Strategies}
use Rattle.positions.specs.declared.Job.{Job}
use Rattle.positions.specs.Step.{job, State, state}
use Rattle.positions.specs.Treating.{step, steps}
use Rattle.positions.proofs.StepLaws.{ruled_fine, steps_length}
use Rattle.positions.proofs.PointLaws.{Rises}
use Rattle.pair_merge.specs.Shared.{shared, merged}
use Rattle.pair_merge.proofs.PromiseLaws.{shared_rises}
use Rattle.pair_judgement.specs.Judgement.{judged_of, Judged}
use Rattle.pair.specs.Pair.{Outcome, on_reference, on_judged, on_good, records_of}
use Rattle.pair_judgement.specs.Reason.{lengthless}
use Rattle.pair_judgement.proofs.TreatLaws.{few_bases}

-- ---- both records keep their lengths
pub record Long (s : State) (o : Outcome) : Type 0 where
  pub first : length o.after.first ≡ length s.first
  pub second : length o.after.second ≡ length s.second

long_good : (s : State) (k : Result Layout Refusal) (f : Layout → Outcome) → ((y : Layout) → Long s (f y)) → Long s (on_good k s f)
long_good s (Ok y) f h = h y
long_good s (Err r) f h = record { first = refl; second = refl }

long_judged : (w : Strategies) (y z : Layout) (s : State) (k : Judged) → Long s (on_judged w y z s k)
unfolding merged
long_judged w y z s (Err (Untreateds.Refused r)) = record { first = refl; second = refl }
long_judged w y z s (Err (Untreateds.Apart r)) = record { first = refl; second = refl }
long_judged w y z s (Ok (p, q)) = go (lengthless p q)
  where
    go : (t : Bool) → Long s (on_reference w y z s p.start q.start t)
    go true = record { first = refl; second = refl }
    go false =
        let h = steps_length (job w y z) (shared y z p.start q.start s.first s.second) s in
        record { first = h.0; second = h.1 }

pub call_long : (w : Strategies) (s : State) → Long s (records_of w s 1 2)
unfolding records_of
call_long w s = long_good s (check_of s.first 1) _ (λ y. long_good s (check_of s.second 2) _ (λ z. long_judged w y z s (judged_of y z s.first s.second 1 2)))

-- ---- no count grows by more than 131,072
steps_most : (w : Job) (l : List (ℕ × ℕ)) (s : State) (n : ℕ) → AtMost n s.stats → AtMost (n + 2 * length l) (steps w l s).stats
unfolding steps step
steps_most w [] s n h = most_less n (n + 2 * 0) s.stats (omega arith) h
steps_most w (e ∷ l) s n h =
    most_less (n + 2 + 2 * length l) (n + 2 * suc (length l)) _ (omega arith)
    (steps_most w l (step w s e.0 e.1) (n + 2) (most_plus n 2 s.stats _ h (ruled_fine w s.first s.second e.0 e.1).growth))

rises_length : (m n a b : ℕ) (l : List (ℕ × ℕ)) → Rises m n a b l → length l ≤ m - a
unfolding Rises
rises_length m n a b [] r = omega arith
rises_length m n a b (e ∷ l) r = omega (arith, rises_length m n (suc e.0) (suc e.1) l r.4, r.0, r.1)

zero_most : (n : ℕ) → AtMost n zeroed
zero_most n = record { overlapping = omega arith; agreeing = omega arith; disagreeing = omega arith; corrected = omega arith }

module _ (w : Strategies) (a b : List ℕ) where
  abbrev s : State
  s = state a b zeroed

  most_judged : (y z : Layout) → 2 * y.count ≤ 131072 → (k : Judged) → AtMost 131072 (on_judged w y z s k).after.stats
  unfolding merged
  most_judged y z h (Err (Untreateds.Refused r)) = zero_most 131072
  most_judged y z h (Err (Untreateds.Apart r)) = zero_most 131072
  most_judged y z h (Ok (p, q)) = go (lengthless p q)
    where
      go : (t : Bool) → AtMost 131072 (on_reference w y z s p.start q.start t).after.stats
      go true = zero_most 131072
      go false =
          let l = shared y z p.start q.start a b in
          let few = rises_length y.count z.count 0 0 (shared y z p.start q.start a b) (shared_rises w y z p.start q.start s) in
          most_less (0 + 2 * length l) 131072 _ (omega (arith, few)) (steps_most (job w y z) l s 0 (zero_most 0))

  pub call_most : AtMost 131072 (records_of w (state a b zeroed) 1 2).after.stats
  unfolding records_of
  call_most = first (check_of a 1) refl
    where
      second : (y : Layout) → 2 * y.count ≤ 131072 → (k : Result Layout Refusal) → AtMost 131072 (on_good k s (λ z. on_judged w y z s (judged_of y z a b 1 2))).after.stats
      second y h (Ok z) = most_judged y z h (judged_of y z a b 1 2)
      second y h (Err r) = zero_most 131072

      first : (k : Result Layout Refusal) → check_of a 1 ≡ k → AtMost 131072 (on_good k s (λ y. on_good (check_of b 2) s (λ z. on_judged w y z s (judged_of y z a b 1 2)))).after.stats
      first (Ok y) e = second y (few_bases a y (good_sound a 1 y e)) (check_of b 2)
      first (Err r) e = zero_most 131072
