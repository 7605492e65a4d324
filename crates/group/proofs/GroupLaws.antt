-- The whole call by its stages, as the code meets them.
use Rattle.std.specs.Prelude.{Result, Ok, Err}
use Prim.Native.Nat.{ℕ}
use mathlib.Core.Path.{◌≡◌, sym, ◌∙◌, ap, ap₂, subst}
use mathlib.Core.Bool.{true, false}
use mathlib.Core.List.{List}
use Rattle.refusal.specs.declared.Refusal.{Refusal}
use Rattle.refusal.specs.declared.Refusal.TheVariants.{Count}
use Rattle.stats.specs.declared.CorrectionStats.{CorrectionStats}
use Rattle.stats.specs.Counts.{full}
use Rattle.strategy.specs.declared.Strategies.{Strategies}
use Rattle.strategy.specs.Number.{numbered_of}
use Rattle.group_frames.specs.Frame.{frames_of}
use Rattle.group_frames.specs.Table.{FrameTable, Filled}
use Rattle.group_mates.specs.Register.{pairs_of}
use Rattle.group_verdicts.specs.Judged.{judge_by}
use Rattle.group_verdicts.specs.Indexed.{indexed_at}
use Rattle.group_verdicts.proofs.IndexLaws.{all_indexed}
use Rattle.group_applying.specs.declared.Applied.{Applied}
use Rattle.group_applying.specs.Applied.{AppliedTo}
use Rattle.group.specs.declared.Grouped.{Grouped}
use Rattle.group.specs.declared.GroupAnswer.{GroupAnswer}
use Rattle.group.specs.declared.GroupAnswer.TheVariants.{Done, Refused}
use Rattle.group.specs.Group.{ended, on_pairs, on_frames, framed_of, on_numbered, group_of}

pub filled : (s begins : List ℕ) (n : ℕ) (f : Result ℕ Refusal) → f ≡ Ok n → Filled s begins f → FrameTable s begins n
filled s begins n f e t = subst (Filled s begins) e t

-- a refusal, with the counts as they came
abbrev pub as_they_came : Refusal → CorrectionStats → Grouped
as_they_came r g = record { answer = Refused r; stats = g }

-- a refusal that the code gives
refusal : (s : List ℕ) (g : CorrectionStats) (r : Refusal) (o : Grouped) → (o.answer ≡ Refused r) × (o.stats ≡ g) → ended o.answer s o.stats ≡ ended (Refused r) s g
refusal s g r o h = ap₂ (λ (a : GroupAnswer) (x : CorrectionStats). ended a s x) h.0 h.1

-- ---- the frames and the pairs
module _ (w : Strategies) (s : List ℕ) (g : CorrectionStats) (f : Result ℕ Refusal) (ef : f ≡ frames_of s) where
  framed : on_frames w s g f ≡ framed_of w s g
  unfolding framed_of
  framed = ap (on_frames w s g) ef

  pub broken : (r : Refusal) → f ≡ Err r → (o : Grouped) → (o.answer ≡ Refused r) × (o.stats ≡ g) → ended o.answer s o.stats ≡ framed_of w s g
  broken r e o h = refusal s g r o h ∙ ap (on_frames w s g) (sym e) ∙ framed

  module _ (n : ℕ) (e : f ≡ Ok n) (v : Result (Unit {0}) Refusal) (ev : v ≡ judge_by (indexed_at s) (pairs_of s n)) where
    judged : on_pairs w s g n v ≡ framed_of w s g
    judged = ap (on_pairs w s g n) (ev ∙ all_indexed w s (pairs_of s n)) ∙ ap (on_frames w s g) (sym e) ∙ framed

    pub refused_pair : (r : Refusal) → v ≡ Err r → (o : Grouped) → (o.answer ≡ Refused r) × (o.stats ≡ g) → ended o.answer s o.stats ≡ framed_of w s g
    refused_pair r d o h = refusal s g r o h ∙ ap (on_pairs w s g n) (sym d) ∙ judged

    pub done : v ≡ Ok tt → (u : List ℕ) (r : Applied) → AppliedTo w s (pairs_of s n) g u r → ended (Done n r.pairs r.overlapping) u r.stats ≡ framed_of w s g
    done d u r a =
        (λ i. ended (Done n (a.pairs i) (a.overlapping i)) (a.bytes i) (a.stats i)) ∙ ap (on_pairs w s g n) (sym d) ∙ judged

-- ---- the strategies and the counts
module _ (m k cap : ℕ) (s : List ℕ) (g : CorrectionStats) (a : Result Strategies Refusal) (ea : a ≡ numbered_of m k cap) where
  numbered : on_numbered s g a ≡ group_of m k cap s g
  unfolding group_of
  numbered = ap (on_numbered s g) ea

  pub no_strategy : (r : Refusal) → a ≡ Err r → (o : Grouped) → (o.answer ≡ Refused r) × (o.stats ≡ g) → ended o.answer s o.stats ≡ group_of m k cap s g
  no_strategy r e o h = refusal s g r o h ∙ ap (on_numbered s g) (sym e) ∙ numbered

  module _ (w : Strategies) (e : a ≡ Ok w) where
    chosen : on_numbered s g (Ok w) ≡ group_of m k cap s g
    chosen = ap (on_numbered s g) (sym e) ∙ numbered

    pub too_full : full g ≡ true → (o : Grouped) → (o.answer ≡ Refused Count) × (o.stats ≡ g) → ended o.answer s o.stats ≡ group_of m k cap s g
    too_full t o h = refusal s g Count o h ∙ (rw t at chosen)

    pub passes : full g ≡ false → framed_of w s g ≡ group_of m k cap s g
    passes t = rw t at chosen

    pub goes_on : full g ≡ false → (u : List ℕ) (o : Grouped) → ended o.answer u o.stats ≡ framed_of w s g → ended o.answer u o.stats ≡ group_of m k cap s g
    goes_on t u o h = h ∙ passes t
