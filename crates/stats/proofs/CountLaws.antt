-- Laws of the four counts: sums, room, and what refusal 9 leaves.
use Prim.Native.Nat.{ℕ, ◌+◌, ◌*◌, ◌≤◌}
use mathlib.Core.Path.{◌≡◌, refl}
use mathlib.Core.Bool.{Bool, true, false, ◌||◌}
use native.Mathlib.Omega.{arith}
use lib.Dec.{ltb}
use borrow.Author.Tests.{ltb-false}
use Rattle.stats.specs.declared.CorrectionStats.{CorrectionStats}
use Rattle.stats.specs.Counts.{zeroed, plus, full}
use Rattle.stats.specs.Room.{AtMost, Room, Adds}

pub counts_as : (g h : CorrectionStats) → g.overlapping ≡ h.overlapping → g.agreeing ≡ h.agreeing → g.disagreeing ≡ h.disagreeing → g.corrected ≡ h.corrected → g ≡ h
counts_as g h o a d c = λ i. record { overlapping = o i; agreeing = a i; disagreeing = d i; corrected = c i }

pub plus_assoc : (g h k : CorrectionStats) → plus (plus g h) k ≡ plus g (plus h k)
plus_assoc g h k = counts_as (plus (plus g h) k) (plus g (plus h k)) (omega arith) (omega arith) (omega arith) (omega arith)

pub plus_comm : (g h : CorrectionStats) → plus g h ≡ plus h g
plus_comm g h = counts_as (plus g h) (plus h g) (omega arith) (omega arith) (omega arith) (omega arith)

pub plus_swap : (g h k : CorrectionStats) → plus (plus g h) k ≡ plus (plus g k) h
plus_swap g h k = counts_as (plus (plus g h) k) (plus (plus g k) h) (omega arith) (omega arith) (omega arith) (omega arith)

pub plus_zero : (g : CorrectionStats) → plus g zeroed ≡ g
plus_zero g = counts_as (plus g zeroed) g (omega arith) (omega arith) (omega arith) (omega arith)

pub zero_plus : (g : CorrectionStats) → plus zeroed g ≡ g
zero_plus g = counts_as (plus zeroed g) g (omega arith) (omega arith) (omega arith) (omega arith)

pub most_less : (m n : ℕ) (g : CorrectionStats) → m ≤ n → AtMost m g → AtMost n g
most_less m n g h r =
    record {
      overlapping = omega (arith, r.overlapping);
      agreeing = omega (arith, r.agreeing);
      disagreeing = omega (arith, r.disagreeing);
      corrected = omega (arith, r.corrected);
    }

pub most_plus : (m n : ℕ) (g h : CorrectionStats) → AtMost m g → AtMost n h → AtMost (m + n) (plus g h)
most_plus m n g h r s =
    record {
      overlapping = omega (arith, r.overlapping, s.overlapping);
      agreeing = omega (arith, r.agreeing, s.agreeing);
      disagreeing = omega (arith, r.disagreeing, s.disagreeing);
      corrected = omega (arith, r.corrected, s.corrected);
    }

pub room_less : (g : CorrectionStats) (m n : ℕ) → m ≤ n → Room g n → Room g m
room_less g m n h r =
    record {
      overlapping = omega (arith, r.overlapping);
      agreeing = omega (arith, r.agreeing);
      disagreeing = omega (arith, r.disagreeing);
      corrected = omega (arith, r.corrected);
    }

pub room_plus : (g h : CorrectionStats) (m n : ℕ) → Room g (m + n) → AtMost n h → Room (plus g h) m
room_plus g h m n r s =
    record {
      overlapping = omega (arith, r.overlapping, s.overlapping);
      agreeing = omega (arith, r.agreeing, s.agreeing);
      disagreeing = omega (arith, r.disagreeing, s.disagreeing);
      corrected = omega (arith, r.corrected, s.corrected);
    }

pub room_adds : (g h : CorrectionStats) (n : ℕ) → Room g n → AtMost n h → Adds g h
room_adds g h n r s =
    record {
      overlapping = omega (arith, r.overlapping, s.overlapping);
      agreeing = omega (arith, r.agreeing, s.agreeing);
      disagreeing = omega (arith, r.disagreeing, s.disagreeing);
      corrected = omega (arith, r.corrected, s.corrected);
    }

or_false : (a b : Bool) → a || b ≡ false → (a ≡ false) × (b ≡ false)
or_false true b e = (e, e_any b e)
  where
    e_any : (c : Bool) → true ≡ false → c ≡ false
    e_any true q = q
    e_any false q = refl
or_false false b e = (refl, e)

abbrev n : ℕ
n = 18446744073692774399

-- refusal 9 leaves room for 128 pairs, each of which lets a count grow by at most 131,072
pub full_room : (g : CorrectionStats) → full g ≡ false → Room g (128 * 131072)
full_room g e =
    let p = or_false (ltb n g.overlapping || ltb n g.agreeing || ltb n g.disagreeing) (ltb n g.corrected) e in
    let q = or_false (ltb n g.overlapping || ltb n g.agreeing) (ltb n g.disagreeing) p.0 in
    let r = or_false (ltb n g.overlapping) (ltb n g.agreeing) q.0 in
    record {
      overlapping = omega (arith, ltb-false n g.overlapping r.0);
      agreeing = omega (arith, ltb-false n g.agreeing r.1);
      disagreeing = omega (arith, ltb-false n g.disagreeing q.1);
      corrected = omega (arith, ltb-false n g.corrected p.1);
    }
