-- A lane: one position of a stretch, with what becomes of the two qualities of bases that agree.
use Rattle.std.specs.Prelude.{ℕ, cond, ◌&&◌, eqb}
use Rattle.strategy.specs.declared.Strategies.{Strategies}
use Rattle.strategy.specs.Rule.{agreed_qual}
use Rattle.lane.specs.declared.Qualities.{Qualities}

-- 1 if a is not p, or b is not q
abbrev pub changed_of : ℕ → ℕ → ℕ → ℕ → ℕ
changed_of a b p q = cond (eqb a p && eqb b q) 0 1

abbrev pub qualities : ℕ → ℕ → Qualities
qualities p q = record { qual1 = p; qual2 = q }

-- what the qualities a and b of two bases that agree become
abbrev pub agreed_of : Strategies → ℕ → ℕ → Qualities
agreed_of w a b = qualities (agreed_qual w a b) (agreed_qual w b a)

abbrev pub chosen : ℕ → ℕ → ℕ → ℕ
chosen e q p = cond (eqb e 0) p q

-- the qualities r, or a and b where e is 0
abbrev pub chosen_of : ℕ → Qualities → ℕ → ℕ → Qualities
chosen_of e r a b = qualities (chosen e r.qual1 a) (chosen e r.qual2 b)
