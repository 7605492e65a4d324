-- What a reader is promised of a pair call, in the words of the demands: `s` before, `o` the answer and what is there after.
use Rattle.std.specs.Prelude.{ℕ, ◌+◌, ◌≡◌, List, false, ◌↔◌, pos}
use Rattle.refusal.specs.declared.Refusal.{Refusal}
use Rattle.fields.specs.declared.RefPos.{RefPos}
use Rattle.fields.specs.declared.ReadOffset.{ReadOffset}
use Rattle.fields.specs.Flag.{has_bit, unmapped}
use Rattle.fields.specs.Layout.{header, layout_of}
use Rattle.strategy.specs.declared.Strategies.{Strategies}
use Rattle.positions.specs.Step.{State, job}
use Rattle.pair_merge.specs.Promise.{Share, Corrected}
use Rattle.pair_judgement.specs.declared.Reason.{Reason}
use Rattle.pair.specs.declared.Answer.TheVariants as Answers
use Rattle.pair.specs.Pair.{Outcome}

-- the call isn't refused
abbrev pub NotRefused : Outcome → Type 0
NotRefused o = (r : Refusal) → o.answer ≡ Answers.Refused r → ⊥

-- the answer is "no overlap", for some reason
abbrev pub NoOverlap : Outcome → Type 0
NoOverlap o = (r : Reason) × (o.answer ≡ Answers.NoOverlap r)

-- both records are mapped, on one reference id, and their positions are not negative
pub record Aligned (a b : List ℕ) : Type 0 where
  pub mapped₁ : has_bit (header a).flags unmapped ≡ false
  pub mapped₂ : has_bit (header b).flags unmapped ≡ false
  pub reference : (header a).ref_id ≡ (header b).ref_id
  pub pos₁ : ℕ
  pub pos₂ : ℕ
  pub placed₁ : (header a).pos ≡ pos pos₁
  pub placed₂ : (header b).pos ≡ pos pos₂

-- the position of a record's pos, counted from 1
abbrev pub from_one : ℕ → RefPos
from_one p = record { 0 = p + 1 }

-- some reference position carries a base of each
abbrev pub Overlaps : State → ℕ → ℕ → Type 0
Overlaps s p q = (i : ReadOffset) × ((j : ReadOffset) × Share (layout_of s.first) (layout_of s.second) (from_one p) (from_one q) s i j)

-- demand 3: the answer is "overlap" exactly when some position is shared; both records and the counts are corrected
pub record Kept (w : Strategies) (s : State) (o : Outcome) (p q : ℕ) : Type 0 where
  pub overlap : (o.answer ≡ Answers.Overlap) ↔ Overlaps s p q
  pub apart : NoOverlap o ↔ (Overlaps s p q → ⊥)
  pub corrected : Corrected (job w (layout_of s.first) (layout_of s.second)) (from_one p) (from_one q) s o.after
