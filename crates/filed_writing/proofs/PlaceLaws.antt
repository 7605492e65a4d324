-- Record i of a group, by the table: it fits the rooms and the buffer, and its frame put behind a front that is done makes a longer one.
use Prim.Native.Nat.{ℕ, ◌+◌, ◌-◌, ◌<◌, ◌≤◌}
use mathlib.Core.Path.{◌≡◌, refl, sym, ◌∙◌, ap}
use mathlib.Core.List.{List}
use native.Mathlib.Omega.{arith}
use lib.ListN.{length, get_or, take, drop}
use lib.Seq.{take-length}
use Rattle.strategy.specs.declared.Strategies.{Strategies}
use Rattle.group_frames.specs.Part.{part, splice}
use Rattle.group_frames.specs.Frame.{begin_of, start_of, end_of, record_of}
use Rattle.group_frames.specs.Table.{FrameTable}
use Rattle.group_frames.proofs.PartLaws.{length_part}
use Rattle.group_frames.proofs.PlaceLaws.{start_end, end_in_lem, at_start, at_end, at_order}
use Rattle.group_applying.specs.Within.{start_in, end_in}
use Rattle.filed_writing.specs.Turn.{framed}
use Rattle.filed_writing.specs.Written.{corrected, Front}
use Rattle.filed_writing.proofs.FrontLaws.{size_next, behind_next, front_next}
use Rattle.filed_writing.proofs.RecordLaws.{corrected_size, size_stays}

module _ (s begins : List ℕ) (n : ℕ) (t : FrameTable s begins n) (i : ℕ) (below : i < n) where
  pub record_long : length (record_of s i) ≡ end_in begins i - start_in begins i
  record_long =
      length_part s (start_of s i) (end_of s i) (start_end s i) (omega (arith, end_in_lem s i n below, t.fit))
      ∙ omega (arith, at_start s begins n t i below, at_end s begins n t i below)

  pub small : end_in begins i - start_in begins i ≤ 65536
  small = omega (arith, record_long, (t.sound i below).allowed)

  pub in_room : (m : ℕ) → end_in begins i - start_in begins i ≤ m → length (record_of s i) ≤ m
  in_room m h = omega (arith, record_long)

  -- a room with bytes for each record, and a buffer that reaches to the end of this one, are enough to put its frame
  pub put_fits : (room out : ℕ) → end_in begins i - start_in begins i ≤ room → end_of s i ≤ out
      → (i + 1 < length begins) × (start_in begins i ≤ end_in begins i) × (end_in begins i ≤ length s) × (end_in begins i ≤ out) × (end_in begins i - start_in begins i ≤ room)
  put_fits room out h e = (omega (arith, t.few, t.wide), at_order s begins n t i below, omega (arith, at_end s begins n t i below, end_in_lem s i n below, t.fit), omega (arith, at_end s begins n t i below), h)

  -- the frame put by the table into out, whose front is done up to it: its size, and then the front of x
  module _ (w : Strategies) (out out' x : List ℕ) (front : Front (corrected w s n) out (begin_of s i)) (inside : end_of s i ≤ length out)
      (put : out' ≡ framed s (get_or begins i 0) (end_in begins i) x out)
      (due : take (length (record_of s i)) x ≡ part (corrected w s n) (start_of s i) (end_of s i)) where
    abbrev b : ℕ
    b = begin_of s i

    abbrev a : ℕ
    a = start_of s i

    abbrev e : ℕ
    e = end_of s i

    abbrev u : List ℕ
    u = corrected w s n

    abbrev out₁ : List ℕ
    out₁ = splice out b a (part s b a)

    put_there : out' ≡ splice out₁ a e (part u a e)
    put_there =
        let y : take (end_in begins i - start_in begins i) x ≡ part u a e = ap (λ (k : ℕ). take k x) (sym record_long) ∙ due in
        let h : get_or begins i 0 ≡ b = t.places i (omega arith) in
        let m : start_in begins i ≡ a = at_start s begins n t i below in
        let l : end_in begins i ≡ e = at_end s begins n t i below in
        put ∙ (λ k. splice (splice out (h k) (m k) (part s (h k) (m k))) (m k) (l k) (y k))

    order : b ≤ a
    unfolding start_of
    order = omega arith

    reach : e ≤ length s
    reach = omega (arith, end_in_lem s i n below, t.fit)

    size : length (part s b a) ≡ a - b
    size = length_part s b a order (omega (arith, reach, start_end s i))

    size_due : part s b a ≡ part u b a
    unfolding start_of
    size_due = sym (size_stays w s n t.fit i below)

    begun : a ≤ length out
    begun = omega (arith, start_end s i)

    long : length out₁ ≡ length out
    long = size_next out (part s b a) b a order begun size

    due_long : length (part u a e) ≡ e - a
    due_long = length_part u a e (start_end s i) (omega (arith, reach, corrected_size w s n t.fit))

    pub put_front : Front (corrected w s n) out' (end_of s i)
    put_front =
        rw put_there
        (front_next out₁ (part u a e) a e (start_end s i) (omega (arith, long)) due_long u (front_next out (part s b a) b a order begun size u front size_due) refl)

    pub put_behind : drop (end_of s i) out' ≡ drop (end_of s i) out
    put_behind =
        rw put_there
        (behind_next out₁ (part u a e) a e (start_end s i) (omega (arith, long)) due_long out (behind_next out (part s b a) b a order begun size out refl))

  -- the front of a record is the record
  pub whole : (x y : List ℕ) → x ≡ record_of s i → record_of s i ≡ y → take (length (record_of s i)) x ≡ y
  whole x y f g = ap (take (length (record_of s i))) f ∙ take-length (record_of s i) ∙ g
