-- Where two records lie, by their headers alone: steps 4 to 6. (Laws: with the spans after it, that is the judgement.)
use Rattle.pair_judgement.specs.Judgement.{Judged}
use Rattle.pair_judgement.specs.declared.Reason.{Reason}
use Rattle.pair_judgement.specs.declared.Untreated.TheVariants as Untreateds
use Rattle.std.specs.Prelude.{ℕ, List, cond, ◌||◌, Option, Result, Ok, Err, Some, None}
use Rattle.fields.specs.Flag.{has_bit, unmapped}
use Rattle.fields.specs.Layout.{header}
use Rattle.fields.specs.Position.{position_of, same_id}
use Rattle.pair_judgement.specs.declared.Reason.TheVariants.{Unmapped, ReferencesDiffer, NegativePosition}

-- both have a position
abbrev pub both_at : Option ℕ → Option ℕ → Result (ℕ × ℕ) Reason
both_at (Some p) (Some q) = Ok (p, q)
both_at (Some p) None = Err NegativePosition
both_at None y = Err NegativePosition

-- neither unmapped, both on one reference, both with a position
unfoldable pub where_of : List ℕ → List ℕ → Result (ℕ × ℕ) Reason
where_of a b =
    cond (has_bit (header a).flags unmapped || has_bit (header b).flags unmapped) (Err Unmapped)
    (cond (same_id (header a).ref_id (header b).ref_id) (both_at (position_of (header a).pos) (position_of (header b).pos)) (Err ReferencesDiffer))

-- what goes on where both lie on one reference
abbrev pub on_where : Result (ℕ × ℕ) Reason → (ℕ → ℕ → Judged) → Judged
on_where (Err r) rest = Err (Untreateds.Apart r)
on_where (Ok (p, q)) rest = rest p q
