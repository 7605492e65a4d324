-- What a program writes.
use Rattle.std.specs.Prelude.{ℕ, List, []}

-- a line, then a group or nothing
pub record Output : Type 0 where
  pub line : List ℕ
  pub group : List ℕ

-- the line alone
abbrev pub alone : List ℕ → Output
alone text = record { line = text; group = [] }
