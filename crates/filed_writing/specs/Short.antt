-- How long the records of a group are.
use Rattle.std.specs.Prelude.{ℕ, ◌-◌, ◌<◌, ◌≤◌, List}
use Rattle.group_applying.specs.Within.{start_in, end_in}

-- by the table, none of the n records has more than m bytes
abbrev pub Short : List ℕ → ℕ → ℕ → Type 0
Short begins n m = (k : ℕ) → k < n → end_in begins k - start_in begins k ≤ m
