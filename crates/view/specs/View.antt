-- What the read view gives of a record s that is given alone, so that a refusal's place is 0.
use Rattle.fields.specs.declared.Layout.{Layout}
use Rattle.refusal.specs.declared.Refusal.{Refusal}
use Rattle.std.specs.Prelude.{ℕ, cond, List, [], ◌∷◌, ltb, ℤ, negsuc, length, Result, Ok, Err}
use Rattle.refusal.specs.Table.{number_of, place_of}
use Rattle.fields.specs.Layout.{header, name_in}
use Rattle.fields.specs.Check.{check_of}

-- the answer in the paper's numbers: 0; or a refusal's number, then its place
abbrev pub view_numbers : Result (Unit {0}) Refusal → List ℕ
view_numbers (Ok done) = 0 ∷ []
view_numbers (Err r) = number_of r ∷ place_of r ∷ []

-- what the check comes to: 1, 2 and 3 of the table refuse, and 4 does not
abbrev pub viewed_by : Result Layout Refusal → Result (Unit {0}) Refusal
viewed_by (Ok y) = Ok tt
viewed_by (Err r) = cond (ltb (number_of r) 4) (Err r) (Ok tt)

unfoldable pub refused_of : List ℕ → Result (Unit {0}) Refusal
refused_of s = viewed_by (check_of s 0)

-- a record that is refused has no name
abbrev pub name_by : Result (Unit {0}) Refusal → List ℕ → List ℕ
name_by (Ok done) s = name_in s
name_by (Err r) s = []

unfoldable pub name_of : List ℕ → List ℕ
name_of s = name_by (refused_of s) s

-- the numbers before the name: a record under 32 bytes has none, and reads as one with nothing in it, placed nowhere
abbrev pub flags_of : List ℕ → ℕ
flags_of s = cond (ltb (length s) 32) 0 (header s).flags

abbrev pub ref_id_of : List ℕ → ℤ
ref_id_of s = cond (ltb (length s) 32) (negsuc 0) (header s).ref_id

abbrev pub pos_of : List ℕ → ℤ
pos_of s = cond (ltb (length s) 32) (negsuc 0) (header s).pos

abbrev pub operation_count_of : List ℕ → ℕ
operation_count_of s = cond (ltb (length s) 32) 0 (header s).operation_count

abbrev pub l_seq_of : List ℕ → ℕ
l_seq_of s = cond (ltb (length s) 32) 0 (header s).l_seq
