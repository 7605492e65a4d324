-- The digest by which names are looked up. No promise rests on it: whatever it is, equal names have equal digests, and names are then compared.
use Rattle.std.specs.Prelude.{ℕ, zero, suc, ◌+◌, ◌-◌, ◌*◌, ◌/◌, ◌%◌, ◌^◌, cond, List, ltb, length}
use Rattle.std.specs.Int.Bits.{bit_or, bit_xor}
use Rattle.fields.specs.Number.{unsigned}

-- the 64 bits h turned by 37, with those of n
abbrev pub mix_of : ℕ → ℕ → ℕ
mix_of h n = bit_xor (bit_or (h * 2 ^ 37 % 2 ^ 64) (h / 2 ^ 27)) n

-- h with k more numbers of w bytes each, from byte i on
unfoldable pub mixed : ℕ → ℕ → List ℕ → ℕ → ℕ → ℕ
mixed w h x i zero = h
mixed w h x i (suc k) = mixed w (mix_of h (unsigned w x i)) x (i + w) k

-- 64 bits as a number below 2 ^ 62 whose middle bits depend on all of them
abbrev pub spread : ℕ → ℕ
spread h = h % 4294967296 * 365550057 + h / 4294967296 * 398046987

-- all bytes of a name: of eight and more the eights in front of the last eight bytes, and these; of fewer each by itself
unfoldable pub all_mixed : List ℕ → ℕ
all_mixed x = cond (ltb (length x) 8) (mixed 1 0 x 0 (length x)) (mix_of (mixed 8 0 x 0 ((length x - 1) / 8)) (unsigned 8 x (length x - 8)))

-- the digest of a name, of all its bytes
unfoldable pub digest_of : List ℕ → ℕ
digest_of x = spread (all_mixed x)
