-- The exported calls on filed groups: the answer and every byte of each slice that may be written.
use Rattle.refusal.specs.declared.Refusal.{Refusal}
use Rattle.std.specs.Prelude.{ℕ, List, cond, length, eqb, Result, Ok, Err}
use Rattle.refusal.specs.declared.Refusal.TheVariants.{CountsSlice}
use Rattle.refusal.specs.Table.{code_of}
use Rattle.stats.specs.declared.CorrectionStats.{CorrectionStats}
use Rattle.stats.specs.Tally.{counts_at, with_counts}
use Rattle.filed.specs.declared.FiledAnswer.{FiledAnswer}
use Rattle.filed.specs.declared.FiledAnswer.TheVariants.{Corrected, AlreadyDone, Refused}
use Rattle.filed.specs.Filed.{Ended, filed_of}
use Rattle.filed_raw.specs.Filing as Filing

-- the answer, the output and the counts after the call
pub record FiledReturned : Type 0 where
  pub answer : ℕ
  pub out : List ℕ
  pub counts : List ℕ

abbrev pub filed_returned : ℕ → List ℕ → List ℕ → FiledReturned
filed_returned r out c = record { answer = r; out = out; counts = c }

-- 0 corrected, 1 already done
abbrev pub filed_code : FiledAnswer → ℕ
filed_code (Corrected n q o h) = 0
filed_code (AlreadyDone n h) = 1
filed_code (Refused r) = code_of r

-- counts are written for a corrected group alone
abbrev pub filed_counts : FiledAnswer → List ℕ → CorrectionStats → List ℕ
filed_counts (Corrected n q o h) c g = with_counts c 0 g
filed_counts (AlreadyDone n h) c g = c
filed_counts (Refused r) c g = c

abbrev pub filed_called : List ℕ → Ended → FiledReturned
filed_called c e = filed_returned (filed_code e.answer) e.bytes (filed_counts e.answer c e.stats)

-- the counts slice, then the call on the filed group s
unfoldable pub filed_call_of : List ℕ → List ℕ → List ℕ → FiledReturned
filed_call_of s out c = cond (eqb (length c) 32) (filed_called c (filed_of s out (counts_at c 0))) (filed_returned (code_of CountsSlice) out c)

-- of the call that makes a raw trailer: 0 made
abbrev pub trailer_code : Result ℕ Refusal → ℕ
trailer_code (Ok n) = 0
trailer_code (Err r) = code_of r

pub record TrailerReturned : Type 0 where
  pub answer : ℕ
  pub trailer : List ℕ

abbrev pub trailer_returned : ℕ → List ℕ → TrailerReturned
trailer_returned r t = record { answer = r; trailer = t }

abbrev pub trailer_called : Filing.Filed → TrailerReturned
trailer_called f = trailer_returned (trailer_code f.answer) f.room

unfoldable pub trailer_call_of : List ℕ → ℕ → ℕ → List ℕ → TrailerReturned
trailer_call_of s agreement disagreement t = trailer_called (Filing.file_of agreement disagreement s t)
