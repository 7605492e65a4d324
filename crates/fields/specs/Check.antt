-- The check of a record: refusals 1 to 4 of the table.
use Rattle.fields.specs.declared.Layout.{Layout}
use Rattle.refusal.specs.declared.Refusal.{Refusal}
use Rattle.std.specs.Prelude.{ℕ, cond, List, ltb, length, Result, Ok, Err}
use Rattle.refusal.specs.declared.Refusal.TheVariants.{RecordShort, RecordLong, NameAndOperations, BasesAndQualities}
use Rattle.fields.specs.Layout.{bases_at, tags_at, layout_of}

-- the record s, checked for the place p: the first refusal that fits, or its layout
unfoldable pub check_of : List ℕ → ℕ → Result Layout Refusal
check_of s p =
    cond (ltb (length s) 32) (Err (RecordShort p))
    (cond (ltb 65536 (length s)) (Err (RecordLong p))
    (cond (ltb (length s) (bases_at s)) (Err (NameAndOperations p))
    (cond (ltb (length s) (tags_at s)) (Err (BasesAndQualities p))
    (Ok (layout_of s)))))
