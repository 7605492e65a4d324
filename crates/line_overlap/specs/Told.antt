-- What a call leaves in the two rooms that are lent to it.
use Rattle.std.specs.Prelude.{ℕ, ◌+◌, ◌-◌, ◌≤◌, ◌≡◌, List, length, take, drop}
use Rattle.line_overlap.specs.Overlap.{overlap_of}

-- for s the line is the first `line` bytes of out', and the group is `group` bytes of input' from byte 2 on; every other
-- byte of both is as it was in out and in input
pub record Told (s input input' out out' : List ℕ) (line group : ℕ) : Type 0 where
  pub said : take line out' ≡ (overlap_of s).line
  pub given : take group (drop 2 input') ≡ (overlap_of s).group
  pub room : line ≤ 256
  pub rest : drop line out' ≡ drop line out
  pub inside : group ≤ length s - 2
  pub digits : take 2 input' ≡ take 2 input
  pub behind : drop (2 + group) input' ≡ drop (2 + group) input
