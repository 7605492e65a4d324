-- The whole call by its stages, as the code meets them.
use Rattle.std.specs.Prelude.{Result, Ok, Err}
use Prim.Native.Nat.{ℕ, ◌+◌, ◌/◌, ◌%◌, ◌≤◌, ◌<◌}
use mathlib.Core.Path.{◌≡◌, refl, sym, ◌∙◌, ap, ap₂}
use mathlib.Core.Bool.{true, false}
use mathlib.Core.List.{List}
use native.Mathlib.Omega.{arith}
use borrow.Author.Tests.{eq-eqb, ne_eqb, lt-ltb, le-ltb}
use lib.ListN.{length, take}
use Rattle.refusal.specs.declared.Refusal.{Refusal}
use Rattle.refusal.specs.declared.Refusal.TheVariants.{Count, OutputShort, TrailerMissing, TrailerField}
use Rattle.stats.specs.declared.CorrectionStats.{CorrectionStats}
use Rattle.stats.specs.Counts.{zeroed, plus, full}
use Rattle.stats.proofs.CountLaws.{full_room, room_adds}
use Rattle.strategy.specs.declared.Strategies.{Strategies}
use Rattle.strategy.specs.Number.{numbered_of}
use Rattle.group_frames.specs.Frame.{begin_of, frames_of}
use Rattle.group_mates.specs.Register.{pairs_of}
use Rattle.group_verdicts.specs.Judged.{judge_by}
use Rattle.group_verdicts.specs.Indexed.{indexed_at}
use Rattle.group_applying.specs.declared.Applied.{Applied}
use Rattle.group_applying.specs.Applied.{grown, overlaps_in, AppliedTo}
use Rattle.filed_writing.specs.Written.{corrected}
use Rattle.group.specs.declared.Grouped.{Grouped}
use Rattle.group.specs.declared.GroupAnswer.{GroupAnswer}
use Rattle.group.specs.declared.GroupAnswer.TheVariants as Groups
use Rattle.group.specs.Group as Group
use Rattle.group.proofs.GroupLaws.{no_strategy, goes_on, refused_pair, done}
use Rattle.filed_ending.specs.Ending.{ending_of}
use Rattle.filed_trailer.specs.declared.Trailer.{Trailer}
use Rattle.filed_trailer.specs.Trailer.{trailer_at, wrong}
use Rattle.filed.specs.declared.FiledAnswer.{FiledAnswer}
use Rattle.filed.specs.declared.FiledAnswer.TheVariants.{Corrected, AlreadyDone, Refused}
use Rattle.filed.specs.Filed.{Ended, ended, on_group, group_in, on_raw, on_trailer, on_ending, filed_of}
use Rattle.filed.specs.Final.{FiledTo, Slight, FitsBy}

-- ---- the counts and the frames
module _ (s out : List ℕ) (g : CorrectionStats) where
  pub too_full : full g ≡ true → ended (Refused Count) out g ≡ filed_of s out g
  unfolding filed_of
  too_full t = rw t refl

  module _ (room : full g ≡ false) (e : Result ℕ Refusal) (is : e ≡ ending_of s) where
    opened : on_ending s out g e ≡ filed_of s out g
    unfolding filed_of
    opened = rw room (ap (on_ending s out g) is)

    pub broken : (r : Refusal) → e ≡ Err r → ended (Refused r) out g ≡ filed_of s out g
    broken r f = ap (on_ending s out g) (sym f) ∙ opened

    pub at : (n : ℕ) → e ≡ Ok n → (x : Ended) → x ≡ on_ending s out g (Ok n) → x ≡ filed_of s out g
    at n f x h = h ∙ ap (on_ending s out g) (sym f) ∙ opened

    pub fits : (x : Result FiledAnswer Refusal) → Slight x → FitsBy x g
    fits (Ok (Corrected n q o h)) l = room_adds g h 16777216 (full_room g room) l
    fits (Ok (AlreadyDone n h)) l = tt
    fits (Ok (Refused r)) l = tt
    fits (Err r) l = tt

-- ---- the trailer behind n frames, which end at p
module _ (s out : List ℕ) (g : CorrectionStats) (n p : ℕ) (ep : p ≡ begin_of s n) where
  pub not_fifty : (length s ≡ p + 50 → ⊥) → ended (Refused TrailerMissing) out g ≡ on_ending s out g (Ok n)
  not_fifty d = rw (ne_eqb (length s) (begin_of s n + 50) (λ z. d (omega arith))) refl

  module _ (size : length s ≡ p + 50) (t : Trailer) (et : t ≡ trailer_at s p) where
    fifty : on_trailer s out g n p t ≡ on_ending s out g (Ok n)
    fifty =
        rw (eq-eqb (length s) (begin_of s n + 50) (omega arith))
        (ap₂ (on_trailer s out g n) ep (et ∙ ap (trailer_at s) ep))

    pub wrong_field : wrong t n p ≡ true → ended (Refused TrailerField) out g ≡ on_ending s out g (Ok n)
    wrong_field b = rw b at fifty

    module _ (right : wrong t n p ≡ false) where
      pub known : t.state ≡ 1 → ended (AlreadyDone n t.growth) out g ≡ on_ending s out g (Ok n)
      known e = rw (right, eq-eqb t.state 1 e) at fifty

      pub raw : (t.state ≡ 1 → ⊥) → (x : Ended) → x ≡ on_raw s out g p t.strategies → x ≡ on_ending s out g (Ok n)
      raw d x h = h ∙ (rw (right, ne_eqb t.state 1 d) at fifty)

-- ---- the pairs of a raw group
abbrev grouped : GroupAnswer → CorrectionStats → Grouped
grouped a g = record { answer = a; stats = g }

module _ (s out : List ℕ) (g : CorrectionStats) (p b : ℕ) where
  -- by what the group call gives
  by_group : (e : Group.Ended) → e ≡ group_in s p b → on_group s out g p e.answer e ≡ on_raw s out g p b
  by_group e h = ap (λ (x : Group.Ended). on_group s out g p x.answer x) h

  group_refused : (r : Refusal) → Group.ended (Groups.Refused r) (take p s) zeroed ≡ group_in s p b → ended (Refused r) out g ≡ on_raw s out g p b
  group_refused r e = by_group (Group.ended (Groups.Refused r) (take p s) zeroed) e

  module _ (a : Result Strategies Refusal) (ea : a ≡ numbered_of (b / 3) (b % 3) 93) where
    pub no_numbers : (r : Refusal) → a ≡ Err r → ended (Refused r) out g ≡ on_raw s out g p b
    no_numbers r e = group_refused r (no_strategy (b / 3) (b % 3) 93 (take p s) zeroed a ea r e (grouped (Groups.Refused r) zeroed) (refl, refl))

    module _ (w : Strategies) (e : a ≡ Ok w) (n : ℕ) (whole : frames_of (take p s) ≡ Ok n)
        (v : Result (Unit {0}) Refusal) (ev : v ≡ judge_by (indexed_at (take p s)) (pairs_of (take p s) n)) where
      goes : (u : List ℕ) (o : Grouped) → Group.ended o.answer u o.stats ≡ Group.framed_of w (take p s) zeroed → Group.ended o.answer u o.stats ≡ group_in s p b
      goes u o h = goes_on (b / 3) (b % 3) 93 (take p s) zeroed a ea w e refl u o h

      pub pair_refused : (r : Refusal) → v ≡ Err r → ended (Refused r) out g ≡ on_raw s out g p b
      pair_refused r d =
          let x = grouped (Groups.Refused r) zeroed in
          group_refused r (goes (take p s) x (refused_pair w (take p s) zeroed (frames_of (take p s)) refl n whole v ev r d x (refl, refl)))

      module _ (passed : v ≡ Ok tt) where
        group_done : (r : Applied) → AppliedTo w (take p s) (pairs_of (take p s) n) zeroed (corrected w (take p s) n) r
            → Group.ended (Groups.Done n r.pairs r.overlapping) (corrected w (take p s) n) r.stats ≡ group_in s p b
        group_done r to =
            goes (corrected w (take p s) n) (grouped (Groups.Done n r.pairs r.overlapping) r.stats)
            (done w (take p s) zeroed (frames_of (take p s)) refl n whole v ev passed (corrected w (take p s) n) r to)

        -- what the group call would give, were there room for it
        due : Applied
        due = record { pairs = length (pairs_of (take p s) n); overlapping = overlaps_in w (take p s) (pairs_of (take p s) n); stats = grown w (take p s) (pairs_of (take p s) n) zeroed }

        pub output_short : length out < length s → ended (Refused OutputShort) out g ≡ on_raw s out g p b
        unfolding due
        output_short l =
            rw (lt-ltb (length out) (length s) l) at (by_group _ (group_done due (record { bytes = refl; stats = refl; pairs = refl; overlapping = refl })))

        pub all_written : length s ≤ length out → (r : Applied) (bytes : List ℕ) → FiledTo w s p n out bytes r
            → ended (Corrected n r.pairs r.overlapping r.stats) bytes (plus g r.stats) ≡ on_raw s out g p b
        all_written l r bytes to =
            (λ i. ended (Corrected n r.pairs r.overlapping r.stats) (to.bytes i) (plus g r.stats))
            ∙ (rw (le-ltb (length out) (length s) l) at (by_group _ (group_done r (record { bytes = refl; stats = to.stats; pairs = to.pairs; overlapping = to.overlapping }))))
