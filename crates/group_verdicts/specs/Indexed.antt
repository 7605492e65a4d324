-- A pair judged with the indexes of its records as places. (Laws: that is the pair call's verdict.)
use Rattle.refusal.specs.declared.Refusal.{Refusal}
use Rattle.cigar.specs.declared.Extent.{Extent}
use Rattle.pair_judgement.specs.declared.Untreated.TheVariants as Untreateds
use Rattle.std.specs.Prelude.{ℕ, List, Result, Ok, Err}
use Rattle.fields.specs.declared.Layout.{Layout}
use Rattle.fields.specs.Check.{check_of}
use Rattle.pair_judgement.specs.Judgement.{judged_of, Judged}
use Rattle.group_frames.specs.Frame.{record_of}

abbrev pub on_sound : Result Layout Refusal → (Layout → Result (Unit {0}) Refusal) → Result (Unit {0}) Refusal
on_sound (Ok y) rest = rest y
on_sound (Err r) rest = Err r

abbrev pub of_span : Result Extent Refusal → Result (Unit {0}) Refusal
of_span (Ok e) = Ok tt
of_span (Err r) = Err r

abbrev pub of_judged : Judged → Result (Unit {0}) Refusal
of_judged (Err (Untreateds.Refused r)) = Err r
of_judged (Err (Untreateds.Apart r)) = Ok tt
of_judged (Ok (p, q)) = Ok tt

unfoldable pub indexed_of : List ℕ → List ℕ → ℕ → ℕ → Result (Unit {0}) Refusal
indexed_of a b i j = on_sound (check_of a i) (λ y. on_sound (check_of b j) (λ z. of_judged (judged_of y z a b i j)))

abbrev pub indexed_at : List ℕ → ℕ → ℕ → Result (Unit {0}) Refusal
indexed_at s i j = indexed_of (record_of s i) (record_of s j) i j
