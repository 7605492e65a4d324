-- The records of a group lie apart and each is in one pair; so what each pair becomes stands in the end, and all other bytes stay.
use Prim.Native.Nat.{ℕ, ◌-◌, ◌<◌, ◌≤◌}
use mathlib.Core.Path.{◌≡◌, refl, ◌∙◌, ap}
use mathlib.Core.List.{List, [], ◌∷◌}
use mathlib.Core.Logic.{◌⊎◌, ⊎_elim}
use native.Mathlib.Omega.{arith}
use borrow.Author.Tests.{eq-eqb}
use lib.Dec.{eqb}
use lib.ListN.{length, get_or}
use Rattle.stats.specs.Counts.{zeroed}
use Rattle.strategy.specs.declared.Strategies.{Strategies}
use Rattle.positions.specs.Step.{state}
use Rattle.group_frames.specs.Part.{part}
use Rattle.group_frames.specs.Frame.{begin_of, start_of, end_of, record_of, put_record}
use Rattle.group_frames.proofs.PartLaws.{length_part}
use Rattle.group_frames.proofs.PlaceLaws.{start_end, end_in_lem, put_size, put_here, put_other, put_out}
use Rattle.fields.specs.Among.{Among}
use Rattle.fields.proofs.AmongLaws.{among_cons, among_none}
use Rattle.group_mates.specs.Promise.{one, times, Once}
use Rattle.group_verdicts.specs.Judged.{pair_at}
use Rattle.group_applying.specs.Applied.{written}
use Rattle.group_applying.proofs.CallLaws.{call_long}

-- ---- a list in which each record stands at most once
one_yes : (a b : ℕ) → a ≡ b → one (eqb a b) ≡ 1
one_yes a b h = ap one (eq-eqb a b h)

module _ (n : ℕ) (e : ℕ × ℕ) (l : List (ℕ × ℕ)) where
  pub first_there : 0 < times (e ∷ l) e.0
  unfolding times
  first_there = omega (arith, one_yes e.0 e.0 refl)

  pub second_there : 0 < times (e ∷ l) e.1
  unfolding times
  second_there = omega (arith, one_yes e.1 e.1 refl)

  pub later_there : (k : ℕ) → 0 < times l k → 0 < times (e ∷ l) k
  unfolding times
  later_there k h = omega arith

  module _ (o : Once n (e ∷ l)) where
    pub once_rest : Once n l
    unfolding times
    once_rest = record { once = λ i. omega (arith, o.once i); inside = λ i h. o.inside i (omega arith) }

    pub first_in : e.0 < n
    first_in = o.inside e.0 first_there

    pub second_in : e.1 < n
    second_in = o.inside e.1 second_there

    pub not_self : e.1 ≡ e.0 → ⊥
    unfolding times
    not_self z = omega (arith, o.once e.0, one_yes e.0 e.0 refl, one_yes e.1 e.0 z)

    pub first_not_later : (j : ℕ) → 0 < times l j → e.0 ≡ j → ⊥
    unfolding times
    first_not_later j h z = omega (arith, o.once j, one_yes e.0 j z)

    pub second_not_later : (j : ℕ) → 0 < times l j → e.1 ≡ j → ⊥
    unfolding times
    second_not_later j h z = omega (arith, o.once j, one_yes e.1 j z)

    first_gone : times l e.0 ≡ 0
    unfolding times
    first_gone = omega (arith, o.once e.0, one_yes e.0 e.0 refl)

    second_gone : times l e.1 ≡ 0
    unfolding times
    second_gone = omega (arith, o.once e.1, one_yes e.1 e.1 refl)

-- ---- one pair put in its place
module _ (w : Strategies) (s₀ : List ℕ) where
  abbrev pub stepped : List ℕ → ℕ × ℕ → List ℕ
  stepped s e = put_record s₀ (put_record s₀ s e.0 (pair_at w s₀ e.0 e.1).after.first) e.1 (pair_at w s₀ e.0 e.1).after.second

module _ (w : Strategies) (s₀ : List ℕ) (n : ℕ) (fit : begin_of s₀ n ≤ length s₀) where
  record_size : (i : ℕ) → i < n → length (record_of s₀ i) ≡ end_of s₀ i - start_of s₀ i
  record_size i h = length_part s₀ (start_of s₀ i) (end_of s₀ i) (start_end s₀ i) (omega (arith, end_in_lem s₀ i n h))

  module _ (s : List ℕ) (same : length s ≡ length s₀) (e : ℕ × ℕ) (h₀ : e.0 < n) (h₁ : e.1 < n) where
    abbrev x : List ℕ
    x = (pair_at w s₀ e.0 e.1).after.first

    abbrev y : List ℕ
    y = (pair_at w s₀ e.0 e.1).after.second

    lx : length x ≡ end_of s₀ e.0 - start_of s₀ e.0
    lx = (call_long w (state (record_of s₀ e.0) (record_of s₀ e.1) zeroed)).first ∙ record_size e.0 h₀

    ly : length y ≡ end_of s₀ e.1 - start_of s₀ e.1
    ly = (call_long w (state (record_of s₀ e.0) (record_of s₀ e.1) zeroed)).second ∙ record_size e.1 h₁

    abbrev half : List ℕ
    half = put_record s₀ s e.0 x

    lh : length half ≡ length s₀
    lh = put_size s₀ n fit s x same e.0 h₀ lx

    pub step_size : length (stepped w s₀ s e) ≡ length s₀
    step_size = put_size s₀ n fit half y lh e.1 h₁ ly

    pub step_other : (j : ℕ) → (e.0 ≡ j → ⊥) → (e.1 ≡ j → ⊥) → part (stepped w s₀ s e) (start_of s₀ j) (end_of s₀ j) ≡ part s (start_of s₀ j) (end_of s₀ j)
    step_other j p q = put_other s₀ n fit half y lh e.1 h₁ ly j q ∙ put_other s₀ n fit s x same e.0 h₀ lx j p

    pub step_first : (e.1 ≡ e.0 → ⊥) → part (stepped w s₀ s e) (start_of s₀ e.0) (end_of s₀ e.0) ≡ x
    step_first d = put_other s₀ n fit half y lh e.1 h₁ ly e.0 d ∙ put_here s₀ n fit s x same e.0 h₀ lx

    pub step_second : part (stepped w s₀ s e) (start_of s₀ e.1) (end_of s₀ e.1) ≡ y
    step_second = put_here s₀ n fit half y lh e.1 h₁ ly

    pub step_out : (p : ℕ) → (p < start_of s₀ e.0) ⊎ (end_of s₀ e.0 ≤ p) → (p < start_of s₀ e.1) ⊎ (end_of s₀ e.1 ≤ p) → get_or (stepped w s₀ s e) p 0 ≡ get_or s p 0
    step_out p g h = put_out s₀ n fit half y lh e.1 h₁ ly p h ∙ put_out s₀ n fit s x same e.0 h₀ lx p g

  -- ---- all pairs of a list
  next_size : (e : ℕ × ℕ) (l : List (ℕ × ℕ)) (s : List ℕ) → length s ≡ length s₀ → Once n (e ∷ l) → length (stepped w s₀ s e) ≡ length s₀
  next_size e l s h o = step_size s h e (first_in n e l o) (second_in n e l o)

  pub written_size : (l : List (ℕ × ℕ)) (s : List ℕ) → length s ≡ length s₀ → Once n l → length (written w s₀ l s) ≡ length s₀
  unfolding written
  written_size [] s h o = h
  written_size (e ∷ l) s h o = written_size l (stepped w s₀ s e) (next_size e l s h o) (once_rest n e l o)

  -- a record in no pair stays
  pub written_other : (l : List (ℕ × ℕ)) (s : List ℕ) → length s ≡ length s₀ → Once n l → (j : ℕ) → times l j ≡ 0
      → part (written w s₀ l s) (start_of s₀ j) (end_of s₀ j) ≡ part s (start_of s₀ j) (end_of s₀ j)
  unfolding written times
  written_other [] s h o j z = refl
  written_other (e ∷ l) s h o j z =
      written_other l (stepped w s₀ s e) (next_size e l s h o) (once_rest n e l o) j (omega arith)
      ∙ step_other s h e (first_in n e l o) (second_in n e l o) j (λ q. omega (arith, one_yes e.0 j q)) (λ q. omega (arith, one_yes e.1 j q))

  pub written_first : (l : List (ℕ × ℕ)) (s : List ℕ) → length s ≡ length s₀ → Once n l → (i j : ℕ) → Among l i j
      → part (written w s₀ l s) (start_of s₀ i) (end_of s₀ i) ≡ (pair_at w s₀ i j).after.first
  unfolding written
  written_first [] s h o i j a = absurd (among_none i j a)
  written_first (e ∷ l) s h o i j a =
      ⊎_elim
      (λ (z : (i ≡ e.0) × (j ≡ e.1)).
      rw (z.0, z.1)
      (written_other l (stepped w s₀ s e) (next_size e l s h o) (once_rest n e l o) e.0 (first_gone n e l o)
      ∙ step_first s h e (first_in n e l o) (second_in n e l o) (not_self n e l o)))
      (λ (z : Among l i j). written_first l (stepped w s₀ s e) (next_size e l s h o) (once_rest n e l o) i j z)
      (among_cons e l i j a)

  pub written_second : (l : List (ℕ × ℕ)) (s : List ℕ) → length s ≡ length s₀ → Once n l → (i j : ℕ) → Among l i j
      → part (written w s₀ l s) (start_of s₀ j) (end_of s₀ j) ≡ (pair_at w s₀ i j).after.second
  unfolding written
  written_second [] s h o i j a = absurd (among_none i j a)
  written_second (e ∷ l) s h o i j a =
      ⊎_elim
      (λ (z : (i ≡ e.0) × (j ≡ e.1)).
      rw (z.0, z.1)
      (written_other l (stepped w s₀ s e) (next_size e l s h o) (once_rest n e l o) e.1 (second_gone n e l o)
      ∙ step_second s h e (first_in n e l o) (second_in n e l o)))
      (λ (z : Among l i j). written_second l (stepped w s₀ s e) (next_size e l s h o) (once_rest n e l o) i j z)
      (among_cons e l i j a)

  -- a byte in no pair's records stays
  pub written_out : (l : List (ℕ × ℕ)) (s : List ℕ) → length s ≡ length s₀ → Once n l → (p : ℕ) → ((i : ℕ) → 0 < times l i → (p < start_of s₀ i) ⊎ (end_of s₀ i ≤ p))
      → get_or (written w s₀ l s) p 0 ≡ get_or s p 0
  unfolding written
  written_out [] s h o p f = refl
  written_out (e ∷ l) s h o p f =
      written_out l (stepped w s₀ s e) (next_size e l s h o) (once_rest n e l o) p (λ i q. f i (later_there n e l i q))
      ∙ step_out s h e (first_in n e l o) (second_in n e l o) p (f e.0 (first_there n e l)) (f e.1 (second_there n e l))
