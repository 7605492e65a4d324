-- A filed group is answered "already done" exactly when its trailer says so, and a raw one never is. Assumes nothing.
use Rattle.std.specs.Prelude.{Result, Ok, Err}
use Prim.Native.Nat.{ℕ, ◌+◌}
use mathlib.Core.Path.{◌≡◌, refl, ap}
use mathlib.Core.Bool.{Bool, true, false, cond}
use mathlib.Core.List.{List}
use mathlib.Core.Logic.{◌↔◌}
use native.Mathlib.Omega.{arith}
use borrow.Author.Tests.{eqb-true}
use lib.Dec.{eqb, ltb}
use lib.ListN.{length}
use Rattle.refusal.specs.declared.Refusal.{Refusal}
use Rattle.refusal.specs.declared.Refusal.TheVariants.{Count, OutputShort, TrailerMissing, TrailerField}
use Rattle.stats.specs.declared.CorrectionStats.{CorrectionStats}
use Rattle.stats.specs.Counts.{full}
use Rattle.group_frames.specs.Frame.{begin_of}
use Rattle.group.specs.declared.GroupAnswer.{GroupAnswer}
use Rattle.group.specs.declared.GroupAnswer.TheVariants as Groups
use Rattle.group.specs.Group as Group
use Rattle.filed_ending.specs.Ending.{ending_of}
use Rattle.filed_ending.proofs.EndLaws.{ends_of}
use Rattle.filed_trailer.specs.declared.Trailer.{Trailer}
use Rattle.filed_trailer.specs.Trailer.{trailer_at, wrong}
use Rattle.filed.specs.declared.FiledAnswer.TheVariants.{Corrected, AlreadyDone, Refused}
use Rattle.filed.specs.Filed.{Ended, ended, on_group, group_in, on_raw, on_trailer, on_ending, filed_of}
use Rattle.filed.specs.Promise.{Known, MarkedDone, MarkedRaw}
use Rattle.filed.proofs.SafeLaws.{known}

module _ (s out : List ℕ) (g : CorrectionStats) (n : ℕ) (h : CorrectionStats) where
  -- "already done" with n records and the growth h
  abbrev IsDone : Ended → Type 0
  IsDone e = e.answer ≡ AlreadyDone n h

  -- a refusal is another answer
  refused_not : (r : Refusal) → Refused r ≡ AlreadyDone n h → ⊥
  refused_not r e = let z : ◌≡◌ {A = ℕ} 0 1 = cc in omega arith

  -- and so is what becomes of a raw group
  raw_not : (p : ℕ) (a : GroupAnswer) (e : Group.Ended) → IsDone (on_group s out g p a e) → ⊥
  raw_not p (Groups.Refused r) e c = refused_not r c
  raw_not p (Groups.Done m q o) e c = go (ltb (length out) (length s)) _ _ c
    where
      go : (t : Bool) (b : List ℕ) (g' : CorrectionStats)
          → IsDone (cond t (ended (Refused OutputShort) out g) (ended (Corrected m q o e.stats) b g')) → ⊥
      go true b g' d = refused_not OutputShort d
      go false b g' d = let z : ◌≡◌ {A = ℕ} 0 1 = cc in omega arith

  module _ (m : ℕ) where
    abbrev p : ℕ
    p = begin_of s m

    abbrev t : Trailer
    t = trailer_at s p

    -- the trailer behind m frames
    done_trailer : ending_of s ≡ Ok m → length s ≡ p + 50 → IsDone (on_trailer s out g m p t) → MarkedDone s n h
    done_trailer ends size c = go (wrong t m p) (eqb t.state 1) refl refl c
      where
        go : (v w : Bool) → wrong t m p ≡ v → eqb t.state 1 ≡ w
            → IsDone (cond v (ended (Refused TrailerField) out g) (cond w (ended (AlreadyDone m t.growth) out g) (on_raw s out g p t.strategies)))
            → MarkedDone s n h
        go true w e f d = absurd (refused_not TrailerField d)
        go false false e f d = absurd (raw_not p (group_in s p t.strategies).answer (group_in s p t.strategies) d)
        go false true e f d =
            let en : m ≡ n = cc in
            let eh : t.growth ≡ h = cc in
            let marked : MarkedDone s m t.growth = record { ends = ends; size = size; right = e; state = eqb-true t.state 1 f; growth = refl } in
            let grown : MarkedDone s m h = rw eh at marked in
            rw en at grown

    -- what stands behind them
    done_size : ending_of s ≡ Ok m → (v : Bool) → eqb (length s) (p + 50) ≡ v
        → IsDone (cond v (on_trailer s out g m p t) (ended (Refused TrailerMissing) out g)) → MarkedDone s n h
    done_size ends true e d = done_trailer ends (eqb-true (length s) (p + 50) e) d
    done_size ends false e d = absurd (refused_not TrailerMissing d)

  -- how the frames end
  done_ending : (x : Result ℕ Refusal) → ending_of s ≡ x → IsDone (on_ending s out g x) → MarkedDone s n h
  done_ending (Err r) e d = absurd (refused_not r d)
  done_ending (Ok m) e d = done_size m e (eqb (length s) (begin_of s m + 50)) refl d

  -- a group that is answered so is marked so
  done_marked : IsDone (filed_of s out g) → (full g ≡ false) × MarkedDone s n h
  unfolding filed_of
  done_marked c = go (full g) refl c
    where
      go : (v : Bool) → full g ≡ v → IsDone (cond v (ended (Refused Count) out g) (on_ending s out g (ending_of s))) → (full g ≡ false) × MarkedDone s n h
      go true e d = absurd (refused_not Count d)
      go false e d = (e, done_ending (ending_of s) refl d)

  -- and one that is marked so is known
  marked_done : full g ≡ false → MarkedDone s n h → IsDone (filed_of s out g)
  marked_done f m =
      let k : Known s n (trailer_at s (begin_of s n)).growth = known s n (ends_of s n m.ends) m.size m.right m.state in
      rw m.growth (ap (λ (x : Ended). x.answer) (k.known out g f))

  -- "already done" is answered exactly when the counts are not refused and the trailer says so
  pub done_exactly : ((filed_of s out g).answer ≡ AlreadyDone n h) ↔ ((full g ≡ false) × MarkedDone s n h)
  done_exactly = (done_marked, λ c. marked_done c.0 c.1)

-- a filed group whose trailer says "raw" is never answered "already done"
pub raw_not_done : (s out : List ℕ) (g : CorrectionStats) (m : ℕ) → MarkedRaw s m
    → (n : ℕ) (h : CorrectionStats) → (filed_of s out g).answer ≡ AlreadyDone n h → ⊥
raw_not_done s out g m raw n h e =
    let d = (done_marked s out g n h e).1 in
    let same : Ok m ≡ Ok n = rw raw.ends at d.ends in
    let en : m ≡ n = cc in
    let zero : (trailer_at s (begin_of s n)).state ≡ 0 = rw en at raw.state in
    omega (arith, d.state)
