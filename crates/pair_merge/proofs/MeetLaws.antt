-- The walk that only reads, up to the first shared position: that of the merge while nothing was met. Its counts are zero, and its strategies
-- any; nothing here depends on them.
use Prim.Native.Nat.{ℕ, zero, suc}
use mathlib.Core.Path.{◌≡◌, refl, ap, ◌∙◌}
use mathlib.Core.Bool.{Bool, true, false, not}
use mathlib.Core.List.{List}
use lib.ListN.{length}
use lib.Dec.{ltb}
use Rattle.std.specs.Prelude.{nat_eq}
use Rattle.std.proofs.Math.Dec.{eqb-suc-zero}
use native.Mathlib.Omega.{arith}
use Rattle.fields.specs.declared.Layout.{Layout}
use Rattle.fields.specs.declared.RefPos.{RefPos}
use Rattle.stats.specs.Counts.{zeroed}
use Rattle.strategy.specs.declared.AgreementStrategy.TheVariants as Agree
use Rattle.strategy.specs.declared.DisagreementStrategy.TheVariants as Differ
use Rattle.strategy.specs.declared.Strategies.{Strategies}
use Rattle.cigar.specs.declared.Cursor.{Cursor}
use Rattle.cigar.specs.Passing.{cursor, Settled}
use Rattle.positions.specs.Step.{State, state}
use Rattle.pair_merge.specs.Shared.{shared, Walked}
use Rattle.pair_merge.specs.Meeting.{Level}
use Rattle.pair_merge.proofs.MergeLaws.{Merging, cig₁, cig₂, merging_start, merging_met, merging_end₁, merging_end₂, none_met}

abbrev pub any : Strategies
any = record { agreement = Agree.Consensus; disagreement = Differ.Consensus; cap = 93 }

abbrev pub unread : List ℕ → List ℕ → State
unread f g = state f g zeroed

-- the cursors a and b over the records f and g stand before the first shared position
abbrev pub Meeting : Layout → Layout → RefPos → RefPos → List ℕ → List ℕ → Cursor → Cursor → Type 0
Meeting y z p q f g a b = Merging any y z p q (unread f g) a b 0 (unread f g)

pub meeting_start : (y z : Layout) (p q : RefPos) (f g : List ℕ) (a b : Cursor) → Walked y p f → Walked z q g
    → Settled (cig₁ any y z p q (unread f g)) (cursor y.operations 0 p.0 0) a → Settled (cig₂ any y z p q (unread f g)) (cursor z.operations 0 q.0 0) b
    → Meeting y z p q f g a b
meeting_start y z p q f g a b wy wz sa sb =
    merging_start any y z p q (unread f g) a b wy wz
    (record { overlapping = omega (arith, wy.small); agreeing = omega (arith, wy.small); disagreeing = omega (arith, wy.small); corrected = omega (arith, wy.small) })
    sa sb

-- whether a number is not 0, where each case says what t is
left_told : (n : ℕ) (t : Bool) → (n ≡ 0 → false ≡ t) → ((n ≡ 0 → ⊥) → true ≡ t) → not (nat_eq n 0) ≡ t
left_told zero t f g = f refl
left_told (suc n) t f g = ap not (eqb-suc-zero n) ∙ g (λ e. absurd (omega arith))

-- at one position, unless the second has no base left, a position is shared exactly when it has one
pub met_if : (y z : Layout) (p q : RefPos) (f g : List ℕ) (a b : Cursor) → Meeting y z p q f g a b → Level a b → (a.left ≡ 0 → ⊥)
    → not (nat_eq b.left 0) ≡ ltb 0 (length (shared y z p q f g))
met_if y z p q f g a b m l h =
    left_told b.left _ (λ e. none_met any y z p q (unread f g) (unread f g) (merging_end₂ any y z p q (unread f g) a b 0 (unread f g) m e))
    (λ k. merging_met any y z p q (unread f g) a b (unread f g) m h k (l h k))

-- none is where the first has no base left
pub met_unless : (y z : Layout) (p q : RefPos) (f g : List ℕ) (a b : Cursor) → Meeting y z p q f g a b → a.left ≡ 0 → not (nat_eq a.left 0) ≡ ltb 0 (length (shared y z p q f g))
met_unless y z p q f g a b m h =
    left_told a.left _ (λ e. none_met any y z p q (unread f g) (unread f g) (merging_end₁ any y z p q (unread f g) a b 0 (unread f g) m e))
    (λ k. absurd (k h))
