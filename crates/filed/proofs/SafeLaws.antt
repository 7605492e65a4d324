-- What a call wrote is known for corrected, and no proper front of it passes. Assumes nothing.
use Rattle.std.specs.Prelude.{Result, Ok, Err}
use Prim.Native.Nat.{ℕ, ◌+◌, ◌/◌, ◌%◌, ◌<◌, ◌≤◌}
use mathlib.Core.Path.{◌≡◌, refl, sym, ◌∙◌, ap, subst}
use mathlib.Core.Bool.{Bool, true, false, cond}
use mathlib.Core.List.{List}
use native.Mathlib.Omega.{arith}
use borrow.Author.Tests.{eq-eqb, ne_eqb}
use lib.ListN.{length, take, drop, length-append, length-drop, take-append-drop}
use lib.Seq.{take_at, take-take, length-take-le}
use Rattle.refusal.specs.declared.Refusal.{Refusal}
use Rattle.refusal.specs.declared.Refusal.TheVariants.{Count, TrailerMissing}
use Rattle.fields.specs.Number.{unsigned}
use Rattle.fields.proofs.NumberLaws.{le_behind}
use Rattle.stats.specs.declared.CorrectionStats.{CorrectionStats}
use Rattle.stats.specs.Counts.{zeroed, full}
use Rattle.stats.specs.Room.{AtMost}
use Rattle.stats.proofs.CountLaws.{most_less}
use Rattle.strategy.specs.declared.Strategies.{Strategies}
use Rattle.group_frames.specs.Frame.{begin_of}
use Rattle.filed_writing.proofs.GrowthLaws.{all_most}
use Rattle.group.specs.declared.GroupAnswer.TheVariants as Groups
use Rattle.group.specs.Group as Group
use Rattle.group.specs.Promise.{Accepted}
use Rattle.group.proofs.PromiseLaws.{accepted, accepted_grown}
use Rattle.group.proofs.KeptLaws.{frames_stay}
use Rattle.filed_ending.specs.Ending.{ending_of}
use Rattle.filed_ending.proofs.EndLaws.{Ends, ends_of, ending_at, ends_left, one_end, ends_front, zero_left, whole_ends, before_size, before_whole}
use Rattle.filed_trailer.specs.declared.Trailer.{Trailer}
use Rattle.filed_trailer.specs.Trailer.{trailer_at, wrong, stamped}
use Rattle.filed_trailer.proofs.TrailerLaws.{trailer, stamped_size, stamped_reads, stamped_zero, stamped_fits, trailer_at_lem}
use Rattle.filed.specs.declared.FiledAnswer.TheVariants.{Corrected, Refused}
use Rattle.filed.specs.Filed.{ended, corrected_with, group_in, on_ending, filed_of}
use Rattle.filed.specs.Promise.{Torn, Known, Safe}
use Rattle.filed.proofs.MadeLaws.{made}

-- ---- a front of a list that ends is refused, where it has no room for the trailer
module _ (z : List ℕ) (n : ℕ) (ends : Ends z n) (size : length z ≡ begin_of z n + 50) (k : ℕ) (short : k < length z) where
  front_size : length (take k z) ≡ k
  front_size = length-take-le k z (omega arith)

  -- if its frames end at all, they end where those of z do
  same_end : (m : ℕ) → Ends (take k z) m → begin_of (take k z) m ≡ begin_of z n
  same_end m e =
      let l : begin_of (take k z) m + 4 ≤ length (take k z) = ends_left (take k z) m e in
      let f = ends_front (take k z) z m e (omega (arith, front_size)) (sym (take-take (begin_of (take k z) m + 4) k z (omega (arith, front_size)))) in
      sym f.1 ∙ ap (begin_of z) (one_end z m n f.0 ends)

  torn_end : (out : List ℕ) (g : CorrectionStats) (x : Result ℕ Refusal) → ending_of (take k z) ≡ x → (r : Refusal) × (on_ending (take k z) out g x ≡ ended (Refused r) out g)
  torn_end out g (Err r) e = (r, refl)
  torn_end out g (Ok m) e =
      let b = same_end m (ends_of (take k z) m e) in
      (TrailerMissing, rw (ne_eqb (length (take k z)) (begin_of (take k z) m + 50) (λ q. omega (arith, front_size))) refl)

  pub torn : Torn (take k z)
  unfolding filed_of
  torn = record { refused = λ out g. go out g (full g) }
    where
      go : (out : List ℕ) (g : CorrectionStats) (t : Bool) → (r : Refusal) × (cond t (ended (Refused Count) out g) (on_ending (take k z) out g (ending_of (take k z))) ≡ ended (Refused r) out g)
      go out g true = (Count, refl)
      go out g false = torn_end out g (ending_of (take k z)) refl

-- ---- a filed group with a corrected trailer that fits is known
pub known : (z : List ℕ) (n : ℕ) → Ends z n → length z ≡ begin_of z n + 50 → wrong (trailer_at z (begin_of z n)) n (begin_of z n) ≡ false → (trailer_at z (begin_of z n)).state ≡ 1
    → Known z n (trailer_at z (begin_of z n)).growth
unfolding filed_of
known z n e l w s = record {
  known = λ out g f.
      rw (f, ending_at z n e, eq-eqb (length z) (begin_of z n + 50) l, w, eq-eqb (trailer_at z (begin_of z n)).state 1 s) refl;
}

-- ---- the frames of a corrected group, where the frames of s end before 50 bytes
module _ (s : List ℕ) (m : ℕ) (ends : ending_of s ≡ Ok m) (size : length s ≡ begin_of s m + 50) where
  abbrev p : ℕ
  p = begin_of s m

  abbrev t : List ℕ
  t = drop p s

  front_length : length (take p s) ≡ p
  front_length = before_size s m (ends_of s m ends)

  trailer_length : length t ≡ 50
  trailer_length = length-drop p s ∙ omega arith

  -- the trailer's four zero bytes, read in it alone
  trailer_zero : unsigned 4 t 0 ≡ 0
  trailer_zero =
      let z : p + 0 ≡ p = omega arith in
      sym (le_behind 4 (take p s) t 0)
      ∙ (λ i. unsigned 4 (take-append-drop p s i) (front_length i + 0))
      ∙ ap (unsigned 4 s) z ∙ (zero_left s p (ends_of s m ends).zero).1

  module _ (n q o : ℕ) (u : List ℕ) (h : CorrectionStats) (b : ℕ) (group : group_in s p b ≡ Group.ended (Groups.Done n q o) u h) where
    -- what the group call gives for the frames, by the strategies w
    given : (w : Strategies) × Accepted w (take p s) zeroed n q o u h
    given =
        let a = accepted (b / 3) (b % 3) 93 (take p s) zeroed n q o (ap (λ (x : Group.Ended). Group.group_numbers x.answer) group) in
        (a.0, subst (λ (x : Group.Ended). Accepted a.0 (take p s) zeroed n q o x.bytes x.stats) group a.3)

    abbrev w : Strategies
    w = given.0

    call : Accepted w (take p s) zeroed n q o u h
    call = given.1

    same_records : m ≡ n
    same_records = let e : Ok m ≡ Ok n = sym (before_whole s m (ends_of s m ends)) ∙ call.framed in cc

    frames_length : length u ≡ p
    frames_length = call.size ∙ front_length

    few_counts : AtMost 18446744073709551615 h
    few_counts =
        let e = accepted_grown w (take p s) zeroed n q o u h call in
        most_less 16777216 18446744073709551615 h (omega arith)
        (rw e (all_most w (take p s) n (omega (arith, same_records, (ends_of s m ends).few))))

    abbrev z : List ℕ
    z = corrected_with s p u h

    pub corrected_length : length z ≡ length s
    corrected_length = length-append u (stamped t h) ∙ omega (arith, frames_length, stamped_size t h, trailer_length)

    corrected_ends : Ends z n × (begin_of z n ≡ length u)
    corrected_ends =
        whole_ends u (stamped t h) n (frames_stay w (take p s) zeroed n q o u h call)
        (omega (arith, stamped_size t h, trailer_length)) (stamped_zero t h ∙ trailer_zero)

    corrected_trailer : trailer_at z (length u) ≡ trailer 1 (trailer_at s p).strategies (trailer_at s p).records h (trailer_at s p).distance
    corrected_trailer =
        let e : trailer_at s p ≡ trailer_at t 0 = sym (λ i. trailer_at (take-append-drop p s i) (front_length i)) ∙ trailer_at_lem (take p s) t in
        stamped_reads u t h trailer_length few_counts ∙ ap (λ (x : Trailer). trailer 1 x.strategies x.records h x.distance) (sym e)

    pub safe : wrong (trailer_at s p) m p ≡ false → Safe z n h
    safe right =
        let e = corrected_ends.0 in
        let b : begin_of z n ≡ length u = corrected_ends.1 in
        let l : length z ≡ begin_of z n + 50 = omega (arith, corrected_length, b, frames_length) in
        let r : trailer_at z (begin_of z n) ≡ trailer 1 (trailer_at s p).strategies (trailer_at s p).records h (trailer_at s p).distance = rw b corrected_trailer in
        let f : wrong (trailer_at z (begin_of z n)) n (begin_of z n) ≡ false =
        (λ i. wrong (r i) (sym same_records i) ((b ∙ frames_length) i)) ∙ stamped_fits (trailer_at s p) m p h right in
        record {
          torn = λ k a. torn z n e l k a;
          whole = rw (ap (λ (x : Trailer). x.growth) r) at (known z n e l f (ap (λ (x : Trailer). x.state) r));
        }

-- ---- the promise: what a call wrote is as long as what it was given, and safe
pub written_safe : (s out : List ℕ) (g : CorrectionStats) (n q o : ℕ) (h : CorrectionStats) (b : List ℕ) (g' : CorrectionStats)
    → filed_of s out g ≡ ended (Corrected n q o h) b g' → (length (take (length s) b) ≡ length s) × Safe (take (length s) b) n h
written_safe s out g n q o h b g' e =
    let x = made s out g n q o h b g' e in
    let m = x.0 in
    let f = x.1.1 in
    let y = (trailer_at s (begin_of s m)).strategies in
    let z = corrected_with s (begin_of s m) f.frames h in
    let l = corrected_length s m x.1.0 f.size n q o f.frames h y f.group in
    let t : take (length s) b ≡ z = ap (take (length s)) f.bytes ∙ take_at z (drop (length s) out) (length s) l in
    rw t (l, safe s m x.1.0 f.size n q o f.frames h y f.group f.right)
