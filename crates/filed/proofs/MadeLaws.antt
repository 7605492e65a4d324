-- What is known of a call that corrected a filed group. Assumes nothing.
use Rattle.std.specs.Prelude.{Result, Ok, Err}
use Prim.Native.Nat.{ℕ, ◌+◌, ◌≤◌}
use mathlib.Core.Path.{◌≡◌, refl, sym, ◌∙◌, ap}
use mathlib.Core.Bool.{Bool, true, false, cond}
use mathlib.Core.List.{List, ◌++◌}
use native.Mathlib.Omega.{arith}
use borrow.Author.Tests.{eqb-true, eqb-false, ltb-false}
use lib.Dec.{eqb, ltb}
use lib.ListN.{length, drop}
use Rattle.refusal.specs.declared.Refusal.{Refusal}
use Rattle.refusal.specs.declared.Refusal.TheVariants.{Count, OutputShort, TrailerMissing, TrailerField}
use Rattle.stats.specs.declared.CorrectionStats.{CorrectionStats}
use Rattle.stats.specs.Counts.{plus, full}
use Rattle.group_frames.specs.Frame.{begin_of}
use Rattle.group.specs.declared.GroupAnswer.{GroupAnswer}
use Rattle.group.specs.declared.GroupAnswer.TheVariants as Groups
use Rattle.group.specs.Group as Group
use Rattle.filed_ending.specs.Ending.{ending_of}
use Rattle.filed_trailer.specs.Trailer.{trailer_at, wrong}
use Rattle.filed.specs.declared.FiledAnswer.TheVariants.{Corrected, AlreadyDone, Refused}
use Rattle.filed.specs.Filed.{Ended, ended, corrected_with, on_group, group_in, on_raw, on_trailer, on_ending, filed_of}

-- the frames of s, m of them, end before a raw trailer that fits, and the group call gives u for them; b is the output
pub record Made (s out : List ℕ) (n q o : ℕ) (h : CorrectionStats) (b : List ℕ) (m : ℕ) : Type 0 where
  pub size : length s ≡ begin_of s m + 50
  pub right : wrong (trailer_at s (begin_of s m)) m (begin_of s m) ≡ false
  pub raw : (trailer_at s (begin_of s m)).state ≡ 1 → ⊥
  pub frames : List ℕ
  pub group : group_in s (begin_of s m) (trailer_at s (begin_of s m)).strategies ≡ Group.ended (Groups.Done n q o) frames h
  pub long : length s ≤ length out
  pub bytes : b ≡ corrected_with s (begin_of s m) frames h ++ drop (length s) out

module _ (s out : List ℕ) (g : CorrectionStats) (n q o : ℕ) (h : CorrectionStats) (b : List ℕ) (g' : CorrectionStats) where
  refused_not : (r : Refusal) → ended (Refused r) out g ≡ ended (Corrected n q o h) b g' → ⊥
  refused_not r e =
      let f : Refused r ≡ Corrected n q o h = ap (λ (x : Ended). x.answer) e in
      let z : ◌≡◌ {A = ℕ} 0 1 = cc in omega arith

  known_not : (m : ℕ) (x : CorrectionStats) → ended (AlreadyDone m x) out g ≡ ended (Corrected n q o h) b g' → ⊥
  known_not m x e =
      let f : AlreadyDone m x ≡ Corrected n q o h = ap (λ (x : Ended). x.answer) e in
      let z : ◌≡◌ {A = ℕ} 0 1 = cc in omega arith

  module _ (m : ℕ) (size : length s ≡ begin_of s m + 50) where
    abbrev p : ℕ
    p = begin_of s m

    module _ (right : wrong (trailer_at s p) m p ≡ false) (raw : (trailer_at s p).state ≡ 1 → ⊥) where
      abbrev E : Group.Ended
      E = group_in s p (trailer_at s p).strategies

      made_group : (a : GroupAnswer) → E.answer ≡ a → on_group s out g p a E ≡ ended (Corrected n q o h) b g' → Made s out n q o h b m
      made_group (Groups.Refused r) e d = absurd (refused_not r d)
      made_group (Groups.Done n' q' o') e d = go (ltb (length out) (length s)) refl d
        where
          go : (t : Bool) → ltb (length out) (length s) ≡ t
              → cond t (ended (Refused OutputShort) out g) (ended (Corrected n' q' o' E.stats) (corrected_with s p E.bytes E.stats ++ drop (length s) out) (plus g E.stats)) ≡ ended (Corrected n q o h) b g'
              → Made s out n q o h b m
          go true f c = absurd (refused_not OutputShort c)
          go false f c =
              let a : Corrected n' q' o' E.stats ≡ Corrected n q o h = ap (λ (x : Ended). x.answer) c in
              let en : n' ≡ n = cc in
              let eq : q' ≡ q = cc in
              let eo : o' ≡ o = cc in
              let eh : E.stats ≡ h = cc in
              record {
                size = size;
                right = right;
                raw = raw;
                frames = E.bytes;
                group = (λ i. Group.ended (e i) E.bytes E.stats) ∙ (λ i. Group.ended (Groups.Done (en i) (eq i) (eo i)) E.bytes (eh i));
                long = ltb-false (length out) (length s) f;
                bytes = sym (ap (λ (x : Ended). x.bytes) c) ∙ ap (λ (x : CorrectionStats). corrected_with s p E.bytes x ++ drop (length s) out) eh;
              }

    made_trailer : on_trailer s out g m p (trailer_at s p) ≡ ended (Corrected n q o h) b g' → Made s out n q o h b m
    made_trailer d = go (wrong (trailer_at s p) m p) refl d
      where
        state : wrong (trailer_at s p) m p ≡ false → (t : Bool) → eqb (trailer_at s p).state 1 ≡ t
            → cond t (ended (AlreadyDone m (trailer_at s p).growth) out g) (on_raw s out g p (trailer_at s p).strategies) ≡ ended (Corrected n q o h) b g' → Made s out n q o h b m
        state r true f c = absurd (known_not m (trailer_at s p).growth c)
        state r false f c = made_group r (eqb-false (trailer_at s p).state 1 f) (group_in s p (trailer_at s p).strategies).answer refl c

        go : (t : Bool) → wrong (trailer_at s p) m p ≡ t
            → cond t (ended (Refused TrailerField) out g) (cond (eqb (trailer_at s p).state 1) (ended (AlreadyDone m (trailer_at s p).growth) out g) (on_raw s out g p (trailer_at s p).strategies)) ≡ ended (Corrected n q o h) b g'
            → Made s out n q o h b m
        go true f c = absurd (refused_not TrailerField c)
        go false f c = state f (eqb (trailer_at s p).state 1) refl c

  pub made : filed_of s out g ≡ ended (Corrected n q o h) b g' → (m : ℕ) × ((ending_of s ≡ Ok m) × Made s out n q o h b m)
  unfolding filed_of
  made e = counts (full g) e
    where
      ending : (x : Result ℕ Refusal) → ending_of s ≡ x → on_ending s out g x ≡ ended (Corrected n q o h) b g' → (m : ℕ) × ((ending_of s ≡ Ok m) × Made s out n q o h b m)
      ending (Err r) f c = absurd (refused_not r c)
      ending (Ok m) f c = go (eqb (length s) (begin_of s m + 50)) refl c
        where
          go : (t : Bool) → eqb (length s) (begin_of s m + 50) ≡ t
              → cond t (on_trailer s out g m (begin_of s m) (trailer_at s (begin_of s m))) (ended (Refused TrailerMissing) out g) ≡ ended (Corrected n q o h) b g'
              → (m : ℕ) × ((ending_of s ≡ Ok m) × Made s out n q o h b m)
          go true z d = (m, (f, made_trailer m (eqb-true (length s) (begin_of s m + 50) z) d))
          go false z d = absurd (refused_not TrailerMissing d)

      counts : (t : Bool) → cond t (ended (Refused Count) out g) (on_ending s out g (ending_of s)) ≡ ended (Corrected n q o h) b g' → (m : ℕ) × ((ending_of s ≡ Ok m) × Made s out n q o h b m)
      counts true c = absurd (refused_not Count c)
      counts false c = ending (ending_of s) refl c
