-- The texts of a refusal, of a pair call's answer and of the counts.
use Rattle.std.specs.Prelude.{ℕ, List, ◌++◌, codes, decimal}
use Rattle.refusal.specs.declared.Refusal.{Refusal}
use Rattle.refusal.specs.Table.{number_of, place_of}
use Rattle.stats.specs.declared.CorrectionStats.{CorrectionStats}
use Rattle.pair.specs.declared.Answer.{Answer}
use Rattle.pair.specs.declared.Answer.TheVariants.{NoOverlap, Overlap, Refused}
use Rattle.pair_judgement.specs.Reason.{reason_number}

abbrev pub refusal_text : Refusal → List ℕ
refusal_text r = codes "refusal " ++ decimal (number_of r) ++ codes " at place " ++ decimal (place_of r)

abbrev pub answer_text : Answer → List ℕ
answer_text (NoOverlap reason) = codes "no overlap, reason " ++ decimal (reason_number reason)
answer_text Overlap = codes "overlap"
answer_text (Refused r) = refusal_text r

abbrev pub counts_text : CorrectionStats → List ℕ
counts_text c = decimal c.overlapping ++ codes " " ++ decimal c.agreeing ++ codes " " ++ decimal c.disagreeing ++ codes " " ++ decimal c.corrected
