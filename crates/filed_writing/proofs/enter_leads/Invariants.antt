-- `filed_writing::enter_leads` meets its contract. The loop keeps: the table names, for each mate of a record before i, that record, and no other. Assumes nothing.
use Rattle.filed_writing.proofs.LeadLaws.{Leading}
use Rattle.filed_writing.proofs.enter_leads.Given as goal

abbrev pub invariant-loop-i : goal.invariant-loop-i
invariant-loop-i l = Leading l.mate l.lead l.n l.i
