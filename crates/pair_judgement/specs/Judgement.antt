-- Two sound records judged, in the document's order: steps 4 to 7, with the reason where they lie apart.
use Rattle.refusal.specs.declared.Refusal.{Refusal}
use Rattle.pair_judgement.specs.declared.Untreated.{Untreated}
use Rattle.pair_judgement.specs.declared.Untreated.TheVariants as Untreateds
use Rattle.std.specs.Prelude.{ℕ, List, cond, ◌||◌, Result, Option, Ok, Err, Some, None}
use Rattle.fields.specs.declared.Layout.{Layout}
use Rattle.fields.specs.Flag.{has_bit, unmapped}
use Rattle.fields.specs.Layout.{header}
use Rattle.fields.specs.Position.{position_of, same_id}
use Rattle.cigar.specs.declared.Extent.{Extent}
use Rattle.cigar.specs.Judge.{operations_of, span_of}
use Rattle.pair_judgement.specs.declared.Reason.TheVariants.{Unmapped, ReferencesDiffer, NegativePosition}

-- both placed on one reference, each with the positions that it covers; else why the two are not treated
abbrev pub Judged : Type 0
Judged = Result (Extent × Extent) Untreated

-- what goes on where a step has found no fault; else its refusal, or the reason
abbrev pub on_uses : Result ℕ Refusal → (ℕ → Result Extent Refusal) → Result Extent Refusal
on_uses (Ok n) rest = rest n
on_uses (Err r) rest = Err r

abbrev pub on_span : Result Extent Refusal → (Extent → Judged) → Judged
on_span (Ok e) rest = rest e
on_span (Err r) rest = Err (Untreateds.Refused r)

abbrev pub on_position : Option ℕ → (ℕ → Judged) → Judged
on_position (Some pos) rest = rest pos
on_position None rest = Err (Untreateds.Apart NegativePosition)

-- step 7 of one record: its operations, its read total, its end
unfoldable pub span_in : Layout → List ℕ → ℕ → ℕ → Result Extent Refusal
span_in y s pos place = on_uses (operations_of y s place) (λ n. span_of pos n place)

-- steps 5, 6 and 7
unfoldable pub mapped_of : Layout → Layout → List ℕ → List ℕ → ℕ → ℕ → Judged
mapped_of y z a b i j =
    cond (same_id (header a).ref_id (header b).ref_id)
    (on_position (position_of (header a).pos) (λ p. on_position (position_of (header b).pos) (λ q.
    on_span (span_in y a p i) (λ s. on_span (span_in z b q j) (λ t. Ok (s, t))))))
    (Err (Untreateds.Apart ReferencesDiffer))

-- step 4: either unmapped
unfoldable pub judged_of : Layout → Layout → List ℕ → List ℕ → ℕ → ℕ → Judged
judged_of y z a b i j = cond (has_bit (header a).flags unmapped || has_bit (header b).flags unmapped) (Err (Untreateds.Apart Unmapped)) (mapped_of y z a b i j)
