-- What becomes of the qualities of a stretch: of positions in a row whose bases agree.
use Rattle.std.specs.Prelude.{ℕ, zero, suc, ◌+◌, List, get_or, set}
use Rattle.strategy.specs.declared.Strategies.{Strategies}
use Rattle.lane.specs.declared.Qualities.{Qualities}
use Rattle.lane.specs.LaneRule.{agreed_of, changed_of}

-- the bytes of both records, and at how many positions a quality changed
pub record Stretched : Type 0 where
  pub first : List ℕ
  pub second : List ℕ
  pub corrected : ℕ

abbrev pub stretched : List ℕ → List ℕ → ℕ → Stretched
stretched a b c = record { first = a; second = b; corrected = c }

-- the qualities x of byte p of the first record and y of byte q of the second become r
abbrev pub requalified : ℕ → ℕ → ℕ → ℕ → Qualities → Stretched → Stretched
requalified p q x y r s = stretched (set s.first p r.qual1) (set s.second q r.qual2) (s.corrected + changed_of x y r.qual1 r.qual2)

-- one position, by the strategies w
abbrev pub agreed_at : Strategies → ℕ → ℕ → Stretched → Stretched
agreed_at w p q s = requalified p q (get_or s.first p 0) (get_or s.second q 0) (agreed_of w (get_or s.first p 0) (get_or s.second q 0)) s

-- n positions in a row, from the bytes p and q on
unfoldable pub agreed_row : Strategies → ℕ → ℕ → ℕ → Stretched → Stretched
agreed_row w p q zero s = s
agreed_row w p q (suc n) s = agreed_row w (suc p) (suc q) n (agreed_at w p q s)
