-- Where no group is corrected, every byte of the output and every count is as it came. Assumes nothing.
use Rattle.std.specs.Prelude.{Result, Ok, Err}
use Rattle.refusal.specs.declared.Refusal.{Refusal}
use Prim.Native.Nat.{ℕ, ◌+◌}
use mathlib.Core.Path.{refl}
use mathlib.Core.Bool.{Bool, true, false, cond}
use mathlib.Core.List.{List, ◌++◌}
use lib.Dec.{eqb, ltb}
use lib.ListN.{length, drop}
use Rattle.refusal.specs.declared.Refusal.TheVariants.{Count, OutputShort, TrailerMissing, TrailerField}
use Rattle.stats.specs.declared.CorrectionStats.{CorrectionStats}
use Rattle.stats.specs.Counts.{plus, full}
use Rattle.group_frames.specs.Frame.{begin_of}
use Rattle.group.specs.declared.GroupAnswer.{GroupAnswer}
use Rattle.group.specs.declared.GroupAnswer.TheVariants as Groups
use Rattle.group.specs.Group as Group
use Rattle.filed_ending.specs.Ending.{ending_of}
use Rattle.filed_trailer.specs.declared.Trailer.{Trailer}
use Rattle.filed_trailer.specs.Trailer.{trailer_at, wrong}
use Rattle.filed.specs.declared.FiledAnswer.TheVariants.{Corrected, AlreadyDone, Refused}
use Rattle.filed.specs.Filed.{ended, corrected_with, on_group, group_in, on_raw, on_trailer, on_ending, filed_of}
use Rattle.filed.specs.Promise.{Kept}

module _ (s out : List ℕ) (g : CorrectionStats) where
  on_group_lem : (p : ℕ) (a : GroupAnswer) (e : Group.Ended) → Kept out g (on_group s out g p a e)
  on_group_lem p (Groups.Refused r) e = (refl, refl)
  on_group_lem p (Groups.Done n q o) e = go (ltb (length out) (length s))
    where
      go : (t : Bool) → Kept out g (cond t (ended (Refused OutputShort) out g) (ended (Corrected n q o e.stats) (corrected_with s p e.bytes e.stats ++ drop (length s) out) (plus g e.stats)))
      go true = (refl, refl)
      go false = refl

  on_trailer_lem : (n p : ℕ) (t : Trailer) (v w : Bool) → Kept out g (cond v (ended (Refused TrailerField) out g) (cond w (ended (AlreadyDone n t.growth) out g) (on_raw s out g p t.strategies)))
  on_trailer_lem n p t true w = (refl, refl)
  on_trailer_lem n p t false true = (refl, refl)
  on_trailer_lem n p t false false = on_group_lem p (group_in s p t.strategies).answer (group_in s p t.strategies)

  on_ending_lem : (x : Result ℕ Refusal) → Kept out g (on_ending s out g x)
  on_ending_lem (Err r) = (refl, refl)
  on_ending_lem (Ok n) = go (eqb (length s) (begin_of s n + 50))
    where
      go : (v : Bool) → Kept out g (cond v (on_trailer s out g n (begin_of s n) (trailer_at s (begin_of s n))) (ended (Refused TrailerMissing) out g))
      go true = on_trailer_lem n (begin_of s n) (trailer_at s (begin_of s n)) (wrong (trailer_at s (begin_of s n)) n (begin_of s n)) (eqb (trailer_at s (begin_of s n)).state 1)
      go false = (refl, refl)

  pub kept : Kept out g (filed_of s out g)
  unfolding filed_of
  kept = go (full g)
    where
      go : (v : Bool) → Kept out g (cond v (ended (Refused Count) out g) (on_ending s out g (ending_of s)))
      go true = (refl, refl)
      go false = on_ending_lem (ending_of s)
