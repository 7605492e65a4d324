-- The six ways in which a call ends, each with what was found before, and back from what is found to the end.
use Rattle.std.specs.Prelude.{Result, Ok, Err}
use Prim.Native.Nat.{ℕ}
use mathlib.Core.Path.{◌≡◌, refl, ◌∙◌, ap}
use mathlib.Core.Bool.{Bool, true, false, cond}
use mathlib.Core.List.{List}
use mathlib.Core.Logic.{⊎_elim}
use Rattle.refusal.specs.declared.Refusal.{Refusal}
use Rattle.refusal.specs.declared.Refusal.TheVariants.{Count, Strategy, Cap}
use Rattle.stats.specs.declared.CorrectionStats.{CorrectionStats}
use Rattle.stats.specs.Counts.{full}
use Rattle.strategy.specs.declared.Strategies.{Strategies}
use Rattle.strategy.specs.Cap.{cap_outside}
use Rattle.strategy.specs.Number.{numbered_of}
use Rattle.strategy.proofs.NumberLaws.{refused_is}
use Rattle.group_frames.specs.Frame.{frames_of}
use Rattle.group.specs.declared.GroupAnswer.TheVariants.{Refused}
use Rattle.group.specs.Group.{Ended, ended, on_pairs, on_frames, framed_of, on_numbered, group_of}
use Rattle.group.proofs.FirstLaws.{judgement}

module _ (m k cap : ℕ) (s : List ℕ) (g : CorrectionStats) where
  -- how a call ends, e being its outcome
  pub data Case (e : Ended) : Type 0 where
    no_strategies : numbered_of m k cap ≡ Err Strategy → e ≡ ended (Refused Strategy) s g → Case e
    no_cap : numbered_of m k cap ≡ Err Cap → e ≡ ended (Refused Cap) s g → Case e
    full_counts : (w : Strategies) → numbered_of m k cap ≡ Ok w → full g ≡ true → e ≡ ended (Refused Count) s g → Case e
    broken_frames : (w : Strategies) (r : Refusal) → numbered_of m k cap ≡ Ok w → full g ≡ false → frames_of s ≡ Err r → e ≡ ended (Refused r) s g → Case e
    refused_pair : (w : Strategies) (n : ℕ) (r : Refusal) → numbered_of m k cap ≡ Ok w → full g ≡ false → frames_of s ≡ Ok n
        → judgement w s n ≡ Err r → e ≡ ended (Refused r) s g → Case e
    all_treated : (w : Strategies) (n : ℕ) → numbered_of m k cap ≡ Ok w → full g ≡ false → frames_of s ≡ Ok n
        → judgement w s n ≡ Ok tt → e ≡ on_pairs w s g n (Ok tt) → Case e

  -- every call ends in one of them
  pub cases : Case (group_of m k cap s g)
  unfolding group_of framed_of
  cases = numbered (numbered_of m k cap) refl
    where
      pairs : (w : Strategies) (n : ℕ) → numbered_of m k cap ≡ Ok w → full g ≡ false → frames_of s ≡ Ok n
          → (v : Result (Unit {0}) Refusal) → judgement w s n ≡ v → Case (on_pairs w s g n v)
      pairs w n a b c (Err r) d = refused_pair w n r a b c d refl
      pairs w n a b c (Ok done) d = all_treated w n a b c d refl

      frames : (w : Strategies) → numbered_of m k cap ≡ Ok w → full g ≡ false → (f : Result ℕ Refusal) → frames_of s ≡ f → Case (on_frames w s g f)
      frames w a b (Err r) c = broken_frames w r a b c refl
      frames w a b (Ok n) c = pairs w n a b c (judgement w s n) refl

      counts : (w : Strategies) → numbered_of m k cap ≡ Ok w → (t : Bool) → full g ≡ t → Case (cond t (ended (Refused Count) s g) (framed_of w s g))
      counts w a true b = full_counts w a b refl
      counts w a false b = frames w a b (frames_of s) refl

      numbered : (x : Result Strategies Refusal) → numbered_of m k cap ≡ x → Case (on_numbered s g x)
      numbered (Err r) a =
          ⊎_elim (λ (z : r ≡ Strategy). no_strategies (a ∙ ap Err z) (ap (λ (x : Refusal). ended (Refused x) s g) z))
          (λ (z : (r ≡ Cap) × (cap_outside cap ≡ true)). no_cap (a ∙ ap Err z.0) (ap (λ (x : Refusal). ended (Refused x) s g) z.0))
          (refused_is m k cap r a)
      numbered (Ok w) a = counts w a (full g) refl

  -- back from what is found: numbers that name no strategies, or no cap
  pub ends_unnamed : (r : Refusal) → numbered_of m k cap ≡ Err r → group_of m k cap s g ≡ ended (Refused r) s g
  unfolding group_of
  ends_unnamed r a = ap (on_numbered s g) a

  module _ (w : Strategies) (a : numbered_of m k cap ≡ Ok w) where
    -- a count that is full
    pub ends_full : full g ≡ true → group_of m k cap s g ≡ ended (Refused Count) s g
    unfolding group_of
    ends_full b = ap (on_numbered s g) a ∙ ap (λ (t : Bool). cond t (ended (Refused Count) s g) (framed_of w s g)) b

    -- frames, whole or broken
    pub ends_framed : full g ≡ false → group_of m k cap s g ≡ on_frames w s g (frames_of s)
    unfolding group_of framed_of
    ends_framed b = ap (on_numbered s g) a ∙ ap (λ (t : Bool). cond t (ended (Refused Count) s g) (framed_of w s g)) b

    -- pairs, judged to be v
    pub ends_judged : full g ≡ false → (n : ℕ) → frames_of s ≡ Ok n → (v : Result (Unit {0}) Refusal) → judgement w s n ≡ v → group_of m k cap s g ≡ on_pairs w s g n v
    ends_judged b n c v d = ends_framed b ∙ ap (on_frames w s g) c ∙ ap (on_pairs w s g n) d
