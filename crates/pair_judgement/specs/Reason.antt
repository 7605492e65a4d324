-- Why two records do not overlap: the reasons by number, and which of the last two is given.
use Rattle.std.specs.Prelude.{ℕ, Bool, cond, ◌||◌, eqb}
use Rattle.cigar.specs.declared.Extent.{Extent}
use Rattle.pair_judgement.specs.declared.Reason.{Reason}
use Rattle.pair_judgement.specs.declared.Reason.TheVariants.{Unmapped, ReferencesDiffer, NegativePosition, NoReferenceLength, NoSharedPosition}

abbrev pub reason_number : Reason → ℕ
reason_number Unmapped = 1
reason_number ReferencesDiffer = 2
reason_number NegativePosition = 3
reason_number NoReferenceLength = 4
reason_number NoSharedPosition = 5

-- an alignment whose lengths on the reference total 0 covers no position
abbrev pub covers_none : Extent → Bool
covers_none e = eqb e.start.0 e.end.0

-- between steps 7 and 8: either record has no length on the reference
abbrev pub lengthless : Extent → Extent → Bool
lengthless p q = covers_none p || covers_none q

abbrev pub unshared_of : Extent → Extent → Reason
unshared_of p q = cond (lengthless p q) NoReferenceLength NoSharedPosition
