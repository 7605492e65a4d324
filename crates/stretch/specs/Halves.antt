-- Packed bases, two to a byte, in a list of bytes and in a word of eight; and what the code finds in a word.
use Rattle.std.specs.Prelude.{ℕ, ◌+◌, ◌*◌, ◌/◌, ◌%◌, ◌^◌, ◌≤◌, ◌<◌, ◌≡◌, List, ◌⊎◌, get_or}
use Rattle.bases.specs.Base.{half}
use Rattle.bases.specs.Code.{N}

-- half i of s: of byte i / 2, the high half for even i
unfoldable pub code_at : List ℕ → ℕ → ℕ
code_at s i = half (i % 2) (get_or s (i / 2) 0)

-- half k of the word w, whose lowest byte is its first
unfoldable pub half_of : ℕ → ℕ → ℕ
half_of w k = half (k % 2) (w / 2 ^ (8 * (k / 2)) % 256)

-- w holds the 16 halves of s from i on
pub record Holds (s : List ℕ) (i w : ℕ) : Type 0 where
  pub code : (k : ℕ) → k < 16 → half_of w k ≡ code_at s (i + k)

-- half k is the same base in both, and not N
abbrev pub Well : ℕ → ℕ → ℕ → Type 0
Well a b k = (half_of a k ≡ half_of b k) × (half_of a k ≡ N → ⊥)

-- a half of x is 0 where a and b are well
pub record Marks (a b x : ℕ) : Type 0 where
  pub clear : (k : ℕ) → k < 16 → half_of x k ≡ 0 → Well a b k
  pub marked : (k : ℕ) → k < 16 → (half_of x k ≡ 0 → ⊥) → (half_of a k ≡ half_of b k → ⊥) ⊎ (half_of a k ≡ N)

-- byte j of x is its first that is not 0
pub record FirstByte (x j : ℕ) : Type 0 where
  pub small : j < 8
  pub zeros : (i : ℕ) → i < j → x / 2 ^ (8 * i) % 256 ≡ 0
  pub found : x / 2 ^ (8 * j) % 256 ≡ 0 → ⊥

-- half n of x is its first that is not 0; 16 where there is none
pub record First (x n : ℕ) : Type 0 where
  pub most : n ≤ 16
  pub zeros : (k : ℕ) → k < n → half_of x k ≡ 0
  pub found : n < 16 → half_of x n ≡ 0 → ⊥

-- half n is the first in which a and b differ or hold N; 16 where there is none
pub record Stretch (a b n : ℕ) : Type 0 where
  pub most : n ≤ 16
  pub well : (k : ℕ) → k < n → Well a b k
  pub ends : n < 16 → (half_of a n ≡ half_of b n → ⊥) ⊎ (half_of a n ≡ N)
