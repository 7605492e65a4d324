-- The paper's number and place of each refusal, and the index of the operation at fault. 6, an operation of length 0, is withdrawn; its number is not used again.
use Rattle.std.specs.Prelude.{ℕ, ◌+◌, ◌*◌}
use Rattle.refusal.specs.declared.Refusal.{Refusal}
use Rattle.refusal.specs.declared.Row.{Row}
use Rattle.refusal.specs.declared.Refusal.TheVariants.{RecordShort, RecordLong, NameAndOperations, BasesAndQualities, OperationCode, ReadTotal, ReferenceEnd, Count, Strategy, Frame, TooManyRecords, Sum, Input, CountsSlice, OutputShort, TrailerMissing, TrailerField, Cap}

-- the row of a refusal that names no operation
abbrev pub plain : ℕ → ℕ → Row
plain n p = record { number = n; at = p; operation = 0 }

abbrev pub row_of : Refusal → Row
row_of (RecordShort p) = plain 1 p
row_of (RecordLong p) = plain 2 p
row_of (NameAndOperations p) = plain 3 p
row_of (BasesAndQualities p) = plain 4 p
row_of (OperationCode p i) = record { number = 5; at = p; operation = i }
row_of (ReadTotal p) = plain 7 p
row_of (ReferenceEnd p) = plain 8 p
row_of Count = plain 9 0
row_of Strategy = plain 10 0
row_of (Frame p) = plain 11 p
row_of TooManyRecords = plain 12 256
row_of Sum = plain 13 0
row_of Input = plain 14 0
row_of CountsSlice = plain 15 0
row_of OutputShort = plain 19 0
row_of TrailerMissing = plain 20 0
row_of TrailerField = plain 21 0
row_of Cap = plain 22 0

abbrev pub number_of : Refusal → ℕ
number_of r = (row_of r).number

abbrev pub place_of : Refusal → ℕ
place_of r = (row_of r).at

-- the operation's index from 0; 0 where no operation is at fault
abbrev pub operation_of : Refusal → ℕ
operation_of r = (row_of r).operation

-- what an exported call answers
abbrev pub code_of : Refusal → ℕ
code_of r = 1000 + 100 * place_of r + number_of r

-- and the one that gives the reason: 10,000 for each operation before the one at fault
abbrev pub operation_code_of : Refusal → ℕ
operation_code_of r = code_of r + 10000 * operation_of r
