-- Signed positions and ids; negsuc k is -(k + 1).
use Rattle.std.specs.Prelude.{Bool, false, eqb, ℤ, pos, negsuc, Option, ℕ, Some, None}

-- a negative position is none
abbrev pub position_of : ℤ → Option ℕ
position_of (pos n) = Some n
position_of (negsuc n) = None

-- two ids are equal
abbrev pub same_id : ℤ → ℤ → Bool
same_id (pos a) (pos b) = eqb a b
same_id (pos a) (negsuc b) = false
same_id (negsuc a) (pos b) = false
same_id (negsuc a) (negsuc b) = eqb a b
