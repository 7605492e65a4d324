-- `positions::treat_row` meets its contract. The loop keeps: the positions left give from here, with the agreements beside, what all give from
-- the start, the records keep their lengths, and the counts have room for what is left. Assumes nothing.
use Rattle.positions.specs.Step.{state}
use Rattle.positions.proofs.BesideLaws.{Adding}
use Rattle.positions.proofs.treat_row.Given as goal

abbrev pub invariant-loop-t : goal.invariant-loop-t
invariant-loop-t l =
    Adding l.job.strategies l.job.first l.job.second l.i.0 l.j.0 l.n (state l.initial.first l.initial.second l.initial.h) l.t l.first l.second l.h l.agreeing l.corrected
