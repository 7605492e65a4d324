-- The library's conversions of bytes, in the words of `Number`: each is proved once over the width. Assumes nothing.
use mathlib.Core.Path.{◌≡◌, refl, ap, sym, ◌∙◌}
use mathlib.Core.Bool.{cond}
use mathlib.Core.List.{List}
use Prim.Native.Nat.{ℕ, zero, suc, ◌+◌, ◌*◌, ◌^◌, ◌<◌, ◌≤◌, ◌-◌, ◌%◌, ◌/◌}
use native.Mathlib.Nat.{add-zero, mul_comm, pow-zero, div-one, pow-succ', div-div-eq-div-mul}
use native.Mathlib.Omega.{arith}
use lib.Dec.{ltb}
use lib.ListN.{get_or, set, length, take, drop}
use lib.Seq.{get_or-take, get_or-drop, drop-drop, sets, sets-eq}
use lib.IntN.{pos, negsuc}
use mir.Syntax.{w32}
use mir.Val.{to_z}
use borrow.Rule.Slice.PartMut.{put_mid}
use Rattle.std.specs.Int.{byte_at, byte_worth, bytes_low_first, sum_through}
use Rattle.std.proofs.lemmas.List.{append_assoc}
use Rattle.fields.specs.Number.{unsigned, put, signed32}
use Rattle.fields.proofs.NumberLaws.{le_add}

-- byte i of a part of s that begins at `at`
byte_of_part : (k i : ℕ) (s : List ℕ) (at : ℕ) → i < k → get_or (take k (drop at s)) i 0 ≡ get_or s (at + i) 0
byte_of_part k i s at h = get_or-take k (drop at s) i 0 h ∙ get_or-drop at s i 0

one : (s : List ℕ) (at : ℕ) → unsigned 1 s at ≡ get_or s at 0
unfolding unsigned
one s at = omega arith

more : (w : ℕ) (s : List ℕ) (at : ℕ) → unsigned (suc (suc w)) s at ≡ unsigned (suc w) s at + get_or s (at + suc w) 0 * 256 ^ suc w
more w s at =
    let e : suc (suc w) ≡ suc w + 1 = omega arith in
    ap (λ n. unsigned n s at) e ∙ le_add (suc w) 1 s at ∙ ap (λ n. unsigned (suc w) s at + n) (ap (λ n. 256 ^ suc w * n) (one s (at + suc w)) ∙ mul_comm (256 ^ suc w) (get_or s (at + suc w) 0))

-- the first w + 1 bytes of that part, added up by their worth, are the number that they hold
pub number_of_part : (k w : ℕ) (s : List ℕ) (at : ℕ) → w < k → sum_through (λ i. byte_worth i (get_or (take k (drop at s)) i 0)) w ≡ unsigned (suc w) s at
number_of_part k zero s at h = byte_of_part k 0 s at h ∙ rw (add-zero at) (sym (one s at))
number_of_part k (suc w) s at h = rw (byte_of_part k (suc w) s at h, number_of_part k w s at (omega arith)) (sym (more w s at))

byte_is : (i v : ℕ) → byte_at i v ≡ v / 256 ^ i % 256
byte_is zero v = rw (pow-zero, div-one)
byte_is (suc i) v = refl

deeper : (i v : ℕ) → v / 256 ^ i / 256 ≡ v / 256 ^ suc i
deeper i v =
    let e : 256 ^ i * 256 ≡ 256 ^ suc i = rw (pow-succ' 256 i) (mul_comm (256 ^ i) 256) in
    div-div-eq-div-mul v (256 ^ i) 256 ∙ ap (λ n. v / n) e

-- a number stored is its bytes stored, one after the other
put_sets : (w i : ℕ) (s : List ℕ) (at v : ℕ) → put w s at (v / 256 ^ i) ≡ sets s at (bytes_low_first i w v)
unfolding put
put_sets zero i s at v = refl
put_sets (suc w) i s at v =
    let e : at + 1 ≡ suc at = omega arith in
    rw (e, ← byte_is i v, deeper i v) (put_sets w (suc i) (set s at (byte_at i v)) (suc at) v)

length_bytes : (i w v : ℕ) → length (bytes_low_first i w v) ≡ w
length_bytes i zero v = refl
length_bytes i (suc w) v = ap suc (length_bytes (suc i) w v)

-- and that is the part of s that begins at `at` with the bytes in its place
pub put_part : (w : ℕ) (s : List ℕ) (at v : ℕ) → at + w ≤ length s → put_mid at (at + w - at) s (bytes_low_first 0 w v) ≡ put w s at v
put_part w s at v h =
    let n = length_bytes 0 w v in
    let k : at + (at + w - at) ≡ at + w = omega arith in
    let p : put w s at v ≡ sets s at (bytes_low_first 0 w v) = rw (pow-zero, div-one) at (put_sets w 0 s at v) in
    rw (drop-drop, k, p, sets-eq (bytes_low_first 0 w v) s at (rw n h), n) (sym (append_assoc (take at s) (bytes_low_first 0 w v) (drop (at + w) s)))

-- two's complement, as the library has it
pub signed_is : (u : ℕ) → to_z w32 u ≡ signed32 u
unfolding signed32
signed_is u =
    let e : 4294967296 - suc u ≡ 4294967295 - u = omega arith in
    ap (λ k. cond (ltb u 2147483648) (pos u) (negsuc k)) e
