-- The table of judged examples holds, by computing the definitions; where bases meet, by computing the list of which the law speaks.
use mathlib.Core.Path.{refl}
use Rattle.strategy.specs.Rule.{treated}
use Rattle.cigar.specs.Operation.{read_sum, ref_sum}
use Rattle.cigar.specs.Found.{off_at}
use Rattle.pair.specs.Examples.{Examples}
use Rattle.pair.proofs.MeetLaws.{meet_from, meet_at}

pub worked : Examples
unfolding Examples treated read_sum ref_sum off_at meet_from
worked = (refl, refl, refl, refl, refl, refl, refl, refl, refl, refl, refl, refl, refl, refl, refl, refl, meet_at _ _ _ _, meet_at _ _ _ _, meet_at _ _ _ _, meet_at _ _ _ _, meet_at _ _ _ _)
