-- What reading standard input can answer.
use Rattle.std.specs.Prelude.{ℕ, ◌≤◌, min, Result, Ok, Err}
use Rattle.std.specs.declared.io.Error.{Error}

-- what a read that answered r, with room for n bytes, was: an error and it failed; else so many bytes were moved, at most n
abbrev pub moved_of : Result ℕ Error → ℕ → Result ℕ Error
moved_of (Ok k) n = Ok (min k n)
moved_of (Err why) n = Err why

-- so many bytes were read, at most n; or reading failed
abbrev pub Within : Result ℕ Error → ℕ → Type 0
Within (Ok k) n = k ≤ n
Within (Err why) n = Unit {0}
