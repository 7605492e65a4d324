-- A text in a buffer.
use Rattle.std.specs.Prelude.{ℕ, ◌+◌, ◌≡◌, List, ◌++◌, length, take, drop}

-- the text stands in out' from byte at on and ends at r; before and behind it is what stood in out
pub record Put (out : List ℕ) (at : ℕ) (text out' : List ℕ) (r : ℕ) : Type 0 where
  pub end : r ≡ at + length text
  pub bytes : take r out' ≡ take at out ++ text
  pub rest : drop r out' ≡ drop r out
