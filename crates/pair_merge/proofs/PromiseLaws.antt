-- The walk over the shared positions keeps the promise.
use Prim.Native.Nat.{ℕ, suc, ◌<◌}
use mathlib.Core.Path.{◌≡◌, refl, ◌∙◌}
use mathlib.Core.List.{List, [], ◌∷◌}
use mathlib.Core.Option.{some}
use native.Mathlib.Omega.{arith}
use lib.ListN.{get_or}
use Rattle.fields.specs.declared.Layout.{Layout}
use Rattle.fields.specs.declared.RefPos.{RefPos}
use Rattle.fields.specs.declared.ReadOffset.{ReadOffset}
use Rattle.strategy.specs.declared.Strategies.{Strategies}
use Rattle.bases.proofs.BaseLaws.{put_outside}
use Rattle.cigar.specs.Operation.{ref_sum, ops_in}
use Rattle.cigar.specs.Found.{off_at}
use Rattle.cigar.proofs.SitsLaws.{on_ref, in_read, sits_found, sits_off, found_sits, bases_of, off_mono, off_within}
use Rattle.fields.specs.Among.{Among}
use Rattle.positions.specs.Step.{job, State}
use Rattle.positions.specs.Treating.{step, steps}
use Rattle.positions.proofs.StepLaws.{steps_length}
use Rattle.positions.proofs.PointLaws.{Rises, Both, kept₁, kept₂, hit, counted, both_step, rises_rising}
use Rattle.pair_merge.specs.Shared.{base_in, pairs, shared, merged}
use Rattle.pair_merge.specs.Promise.{Share, Names, Outside, Corrected}
use Rattle.pair_merge.proofs.PairLaws.{pairs_meet, meet_pairs, pairs_rise}

-- ---- what all positions leave outside bases and qualities
module _ (v : Strategies) (y z : Layout) where
  outside₁ : (l : List (ℕ × ℕ)) (a b : ℕ) (s : State) (k : ℕ) → Rises y.count z.count a b l → Both y z s → Outside y k → get_or (steps (job v y z) l s).first k 0 ≡ get_or s.first k 0
  unfolding steps step Rises
  outside₁ [] a b s k r h o = refl
  outside₁ (e ∷ l) a b s k r h o =
      outside₁ l (suc e.0) (suc e.1) (step (job v y z) s e.0 e.1) k r.4 (both_step v y z s e.0 e.1 h) o
      ∙ put_outside s.first y e.0 _ _ h.first r.1 k o

  outside₂ : (l : List (ℕ × ℕ)) (a b : ℕ) (s : State) (k : ℕ) → Rises y.count z.count a b l → Both y z s → Outside z k → get_or (steps (job v y z) l s).second k 0 ≡ get_or s.second k 0
  unfolding steps step Rises
  outside₂ [] a b s k r h o = refl
  outside₂ (e ∷ l) a b s k r h o =
      outside₂ l (suc e.0) (suc e.1) (step (job v y z) s e.0 e.1) k r.4 (both_step v y z s e.0 e.1 h) o
      ∙ put_outside s.second z e.1 _ _ h.second r.3 k o

-- ---- the shared positions
module _ (v : Strategies) (y z : Layout) (r t : RefPos) (s : State) where
  low : (x : Layout) (l : List ℕ) (start : RefPos) (p i : ℕ) → base_in x l start p ≡ some i → i < x.count
  low x l start p i e = (bases_of x.count i (off_at (ops_in x l) 0 start.0 p) e).1

  mono : (x : Layout) (l : List ℕ) (start : RefPos) (p q i j : ℕ) → base_in x l start p ≡ some i → base_in x l start q ≡ some j → p < q → i < j
  mono x l start p q i j a b h =
      off_mono (ops_in x l) 0 start.0 i j p q (bases_of x.count i (off_at (ops_in x l) 0 start.0 p) a).0
      (bases_of x.count j (off_at (ops_in x l) 0 start.0 q) b).0 h

  pub shared_rises : Rises y.count z.count 0 0 (shared y z r t s.first s.second)
  unfolding shared
  shared_rises =
      pairs_rise (base_in y s.first r) (base_in z s.second t) y.count z.count (low y s.first r) (low z s.second t)
      (mono y s.first r) (mono z s.second t) r.0 (ref_sum (ops_in y s.first)) 0 0 (λ u i l q. omega arith) (λ u i l q. omega arith)

  -- the list names exactly the pairs of bases that sit at one position
  pub shared_names : Names y z r t s (shared y z r t s.first s.second)
  unfolding shared
  shared_names = record { all = all; only = only; once = rises_rising y.count z.count 0 0 _ shared_rises }
    where
      all : (i j : ReadOffset) → Share y z r t s i j → Among (pairs (base_in y s.first r) (base_in z s.second t) r.0 (ref_sum (ops_in y s.first))) i.0 j.0
      all i j h =
          let w = off_within (ops_in y s.first) r.0 i.0 h.at.0 (sits_off h.first) in
          meet_pairs (base_in y s.first r) (base_in z s.second t) r.0 (ref_sum (ops_in y s.first)) i.0 j.0
          (record { u = h.at.0; low = w.1; high = w.2; first = sits_found h.first; second = sits_found h.second })

      only : (i j : ReadOffset) → Among (pairs (base_in y s.first r) (base_in z s.second t) r.0 (ref_sum (ops_in y s.first))) i.0 j.0 → Share y z r t s i j
      only i j h =
          let m = pairs_meet (base_in y s.first r) (base_in z s.second t) r.0 (ref_sum (ops_in y s.first)) i.0 j.0 h in
          record {
            at = on_ref m.u;
            first = found_sits y.count (ops_in y s.first) r.0 i.0 m.u m.first;
            second = found_sits z.count (ops_in z s.second) t.0 j.0 m.u m.second;
          }

  pub promised : Both y z s → Corrected (job v y z) r t s (merged (job v y z) r t s)
  unfolding merged
  promised h =
      let l = shared y z r t s.first s.second in
      let n = shared_names in
      let long = steps_length (job v y z) l s in
      record {
        both = λ i j q. hit v y z l 0 0 i.0 j.0 s shared_rises h (n.all i j q);
        alone₁ = λ i q. let k = kept₁ v y z l 0 0 i.0 s shared_rises h (λ j w. q (in_read j) (n.only i (in_read j) w)) in record { base = k.0; quality = k.1 };
        alone₂ = λ j q. let k = kept₂ v y z l 0 0 j.0 s shared_rises h (λ i w. q (in_read i) (n.only (in_read i) j w)) in record { base = k.0; quality = k.1 };
        outside₁ = λ k o. outside₁ v y z l 0 0 s k shared_rises h o;
        outside₂ = λ k o. outside₂ v y z l 0 0 s k shared_rises h o;
        length₁ = long.0;
        length₂ = long.1;
        positions = l;
        named = n;
        counts = counted v y z l 0 0 s s shared_rises h (λ i j q. refl);
      }
