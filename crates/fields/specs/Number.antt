-- Numbers of several bytes, least byte first, and signed ones in two's complement.
use Rattle.std.specs.Prelude.{ℕ, zero, suc, ◌+◌, ◌*◌, ◌-◌, ◌/◌, ◌%◌, cond, List, ltb, ℤ, pos, negsuc, get_or, set}

-- the number that w bytes of s from place at on hold
unfoldable pub unsigned : ℕ → List ℕ → ℕ → ℕ
unsigned zero s at = 0
unsigned (suc w) s at = get_or s at 0 + 256 * unsigned w s (at + 1)

-- s with the w low bytes of v from place at on
unfoldable pub put : ℕ → List ℕ → ℕ → ℕ → List ℕ
put zero s at v = s
put (suc w) s at v = put w (set s at (v % 256)) (at + 1) (v / 256)

-- the signed number with the 32 bits of n; negsuc k is -(k + 1)
unfoldable pub signed32 : ℕ → ℤ
signed32 n = cond (ltb n 2147483648) (pos n) (negsuc (4294967295 - n))
