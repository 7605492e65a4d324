-- Laws of one lane: it is what the rule says of two bases that agree.
use Prim.Native.Nat.{ℕ, ◌≤◌}
use mathlib.Core.Path.{◌≡◌, refl}
use mathlib.Core.Bool.{Bool, true, false, cond}
use native.Mathlib.Omega.{arith}
use borrow.Author.Tests.{eq-eqb, ne_eqb}
use Rattle.bases.specs.Code.{N}
use Rattle.stats.specs.Counts.{counts}
use Rattle.strategy.specs.declared.Strategies.{Strategies}
use Rattle.strategy.specs.Rule.{out, treated}
use Rattle.lane.specs.declared.Qualities.{Qualities}
use Rattle.lane.specs.LaneRule.{changed_of, agreed_of}

-- ---- the rule
-- two equal called bases
pub agreed_rule : (w : Strategies) (x a y b : ℕ) (r : Qualities) → x ≡ y → (x ≡ N → ⊥) → r ≡ agreed_of w a b
    → treated w x a y b ≡ out x r.qual1 y r.qual2 (counts 1 1 0 (changed_of a b r.qual1 r.qual2))
unfolding treated
agreed_rule w x a y b r exy n er = rw (← exy, ne_eqb x N n, eq-eqb x x refl, er)

-- an N in the first record
pub blank_rule : (w : Strategies) (x a y b : ℕ) → x ≡ N → treated w x a y b ≡ out x a y b (counts 0 0 0 0)
unfolding treated
blank_rule w x a y b e = rw (eq-eqb x N e)

-- ---- whether a quality changed is a 0 or a 1
pub bit_low : (t : Bool) → cond t 0 1 ≤ 1
bit_low true = omega arith
bit_low false = omega arith
