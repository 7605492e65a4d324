-- `filed_writing::pair_of` meets its contract. Assumes nothing.
use native.Mathlib.Omega.{arith}
use Rattle.filed_writing.proofs.LeadLaws.{none_of}
use Rattle.filed_writing.proofs.ChosenLaws.{turned_first, turned_last}
use Rattle.filed_writing.proofs.pair_of.Goals as goal

pub returns-in-Some : goal.returns-in-Some
returns-in-Some c =
    λ s n below u v a. turned_first s _ _ n _ below u v a _ (omega (arith, c.in-Some.ensures.0, c.in-Some.ensures.1))

pub returns : goal.returns
returns c =
    λ s n below u v a. turned_last s _ _ n _ below u v a (none_of _ c.in_default.ensures) _ (omega (arith, c.in_ok-first.ensures.0, c.in_ok-first.ensures.1))
