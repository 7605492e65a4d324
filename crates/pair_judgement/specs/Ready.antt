-- What is known of two records before they are treated, and of what treating them gives.
use Rattle.pair_judgement.specs.declared.Reason.{Reason}
use Rattle.pair_judgement.specs.declared.Untreated.TheVariants as Untreateds
use Rattle.std.specs.Prelude.{ℕ, ◌+◌, ◌≡◌, List, length, Result, Ok, Err}
use Rattle.refusal.specs.declared.Refusal.{Refusal}
use Rattle.fields.specs.declared.Layout.{Layout}
use Rattle.fields.specs.declared.RefPos.{RefPos}
use Rattle.cigar.specs.declared.Extent.{Extent}
use Rattle.fields.specs.Layout.{layout_of}
use Rattle.fields.specs.Sound.{Sound}
use Rattle.strategy.specs.declared.Strategies.{Strategies}
use Rattle.positions.specs.declared.Job.{Job}
use Rattle.positions.specs.Step.{State, job}
use Rattle.pair_merge.specs.Shared.{shared, merged}
use Rattle.pair_judgement.specs.Judgement.{judged_of}

-- two sound records that were judged to be on one reference
pub record Ready (y z : Layout) (p q : Extent) (a b : List ℕ) : Type 0 where
  pub first : Sound a y
  pub second : Sound b z
  pub place₁ : ℕ
  pub place₂ : ℕ
  pub both : judged_of y z a b place₁ place₂ ≡ Ok (p, q)

-- what treating them gives
pub record TreatedTo (w : Job) (p q : RefPos) (s u : State) (n : ℕ) : Type 0 where
  pub after : u ≡ merged w p q s
  pub counted : n ≡ length (shared w.first w.second p q s.first s.second)

-- two sound records that were judged, and not refused
pub record Cleared (a b : List ℕ) : Type 0 where
  pub first : Sound a (layout_of a)
  pub second : Sound b (layout_of b)
  pub place₁ : ℕ
  pub place₂ : ℕ
  pub passed : (r : Refusal) → judged_of (layout_of a) (layout_of b) a b place₁ place₂ ≡ Err (Untreateds.Refused r) → ⊥

-- what treating them gives, by where they lie: nothing is met of records apart
abbrev pub TreatedAt : Result (ℕ × ℕ) Reason → Strategies → State → State → ℕ → Type 0
TreatedAt (Err r) w s u n = (u ≡ s) × (n ≡ 0)
TreatedAt (Ok (p, q)) w s u n = TreatedTo (job w (layout_of s.first) (layout_of s.second)) (record { 0 = p + 1 }) (record { 0 = q + 1 }) s u n
