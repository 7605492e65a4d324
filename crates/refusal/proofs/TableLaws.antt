-- Laws of the table of refusals.
use mathlib.Core.Path.{◌≡◌}
use native.Mathlib.Omega.{arith}
use Rattle.refusal.specs.declared.Refusal.{Refusal}
use Rattle.refusal.specs.declared.Refusal.TheVariants.{RecordShort, RecordLong, NameAndOperations, BasesAndQualities, OperationCode, ReadTotal, ReferenceEnd, Count, Strategy, Frame, TooManyRecords, Sum, Input, CountsSlice, OutputShort, TrailerMissing, TrailerField, Cap}
use Rattle.refusal.specs.Table.{number_of}

-- 6 is withdrawn: no refusal has it
pub six_withdrawn : (r : Refusal) → number_of r ≡ 6 → ⊥
six_withdrawn (RecordShort p) e = omega arith
six_withdrawn (RecordLong p) e = omega arith
six_withdrawn (NameAndOperations p) e = omega arith
six_withdrawn (BasesAndQualities p) e = omega arith
six_withdrawn (OperationCode p i) e = omega arith
six_withdrawn (ReadTotal p) e = omega arith
six_withdrawn (ReferenceEnd p) e = omega arith
six_withdrawn Count e = omega arith
six_withdrawn Strategy e = omega arith
six_withdrawn (Frame p) e = omega arith
six_withdrawn TooManyRecords e = omega arith
six_withdrawn Sum e = omega arith
six_withdrawn Input e = omega arith
six_withdrawn CountsSlice e = omega arith
six_withdrawn OutputShort e = omega arith
six_withdrawn TrailerMissing e = omega arith
six_withdrawn TrailerField e = omega arith
six_withdrawn Cap e = omega arith
