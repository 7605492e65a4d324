-- What a call leaves in the two rooms that are lent to it.
use Rattle.std.specs.Prelude.{ℕ, ◌≤◌, ◌≡◌, List, take, drop}
use Rattle.line_filed.specs.FiledLine.{filed_line_of}

-- for s the line is the first `line` bytes of out', and the group is the first `group` bytes of filed'; every other byte of
-- both is as it was in out and in filed
pub record Told (s filed filed' out out' : List ℕ) (line group : ℕ) : Type 0 where
  pub said : take line out' ≡ (filed_line_of s).line
  pub given : take group filed' ≡ (filed_line_of s).group
  pub room : line ≤ 256
  pub rest : drop line out' ≡ drop line out
  pub inside : group ≤ 65536
  pub behind : drop group filed' ≡ drop group filed
