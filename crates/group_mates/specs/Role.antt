-- How keys and tables have a role and an index: by numbers, of which 0 is none.
use Rattle.std.specs.Prelude.{ℕ, suc, Option, None, Some}
use Rattle.group_mates.specs.declared.Role.{Role}
use Rattle.group_mates.specs.declared.Role.TheVariants.{First, Last}

-- the number that `role_by` has for a role
abbrev pub role_number : Role → ℕ
role_number First = 1
role_number Last = 2

abbrev pub role_code : Option Role → ℕ
role_code None = 0
role_code (Some r) = role_number r

-- one more than an index, as `holder` and `mates_of` have it
abbrev pub one_more : Option ℕ → ℕ
one_more None = 0
one_more (Some i) = suc i
