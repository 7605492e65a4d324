-- The digest, by the turns of its loop, and of a short name as the fold that it is.
use Prim.Native.Nat.{ℕ, zero, suc, ◌+◌, ◌-◌, ◌/◌, ◌<◌, ◌≤◌}
use mathlib.Core.Path.{◌≡◌, refl, sym, ap, ◌∙◌}
use mathlib.Core.List.{List, [], ◌∷◌}
use native.Mathlib.Omega.{arith}
use borrow.Author.Tests.{lt-ltb, le-ltb}
use lib.ListN.{length}
use Rattle.std.specs.List.{fold}
use Rattle.fields.specs.Number.{unsigned}
use Rattle.group_names.specs.Digest.{mix_of, mixed, all_mixed}

pub mixed_next : (w h n i k m : ℕ) (x : List ℕ) → k ≡ suc m → n ≡ unsigned w x i → mixed w h x i k ≡ mixed w (mix_of h n) x (i + w) m
unfolding mixed
mixed_next w h n i k m x e f = rw (e, f)

pub mixed_end : (w h i k : ℕ) (x : List ℕ) → k ≡ 0 → mixed w h x i k ≡ h
unfolding mixed
mixed_end w h i k x e = rw e

-- a byte in front moves each number by one place
byte_behind : (b : ℕ) (x : List ℕ) (i j : ℕ) → j ≡ suc i → unsigned 1 (b ∷ x) j ≡ unsigned 1 x i
unfolding unsigned
byte_behind b x i j e = rw e refl

mixed_behind : (h b : ℕ) (x : List ℕ) (i j k : ℕ) → j ≡ suc i → mixed 1 h (b ∷ x) j k ≡ mixed 1 h x i k
unfolding mixed
mixed_behind h b x i j zero e = refl
mixed_behind h b x i j (suc k) e =
    ap (λ (z : ℕ). mixed 1 (mix_of h z) (b ∷ x) (j + 1) k) (byte_behind b x i j e) ∙ mixed_behind (mix_of h (unsigned 1 x i)) b x (i + 1) (j + 1) k (omega arith)

first_byte : (b : ℕ) (x : List ℕ) → b ≡ unsigned 1 (b ∷ x) 0
unfolding unsigned
first_byte b x = omega arith

bytes_mixed : (h : ℕ) (x : List ℕ) → fold mix_of h x ≡ mixed 1 h x 0 (length x)
unfolding mixed
bytes_mixed h [] = refl
bytes_mixed h (b ∷ x) =
    ap (λ (z : ℕ). fold mix_of (mix_of h z) x) (first_byte b x) ∙ bytes_mixed (mix_of h (unsigned 1 (b ∷ x) 0)) x
    ∙ sym (mixed_behind (mix_of h (unsigned 1 (b ∷ x) 0)) b x 0 1 (length x) refl)

pub mixed_short : (x : List ℕ) → length x < 8 → fold mix_of 0 x ≡ all_mixed x
unfolding all_mixed
mixed_short x h = rw (lt-ltb (length x) 8 h) (bytes_mixed 0 x)

pub mixed_long : (x : List ℕ) (h n : ℕ) → 8 ≤ length x → h ≡ mixed 8 0 x 0 ((length x - 1) / 8) → n ≡ unsigned 8 x (length x - 8) → mix_of h n ≡ all_mixed x
unfolding all_mixed
mixed_long x h n k e f = rw (le-ltb (length x) 8 k, e, f)
