-- A part of a list, and a list with a part of it put anew.
use Rattle.std.specs.Prelude.{ℕ, ◌-◌, List, ◌++◌, take, drop}

-- the part of xs from a to e
abbrev pub part : List ℕ → ℕ → ℕ → List ℕ
part xs a e = take (e - a) (drop a xs)

-- xs with ys in the place of its part from a to e
abbrev pub splice : List ℕ → ℕ → ℕ → List ℕ → List ℕ
splice xs a e ys = take a xs ++ (ys ++ drop (e - a) (drop a xs))
