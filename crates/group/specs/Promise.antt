-- What a reader is promised of a group call: no loop and no order of writing in it. It speaks of any list that names the pairs; that
-- there is one is a law (`paired`), so nobody has to believe how the pairs are found, listed and judged (`pairs_of`, `judge_by`).
use Rattle.std.specs.Prelude.{ℕ, ◌<◌, ◌≤◌, ◌≡◌, true, false, List, [], ◌∷◌, ◌⊎◌, length, get_or, Ok, Err}
use Rattle.refusal.specs.declared.Refusal.{Refusal}
use Rattle.refusal.specs.declared.Refusal.TheVariants.{Strategy, Cap}
use Rattle.refusal.specs.Table.{number_of, place_of, operation_of}
use Rattle.stats.specs.declared.CorrectionStats.{CorrectionStats}
use Rattle.stats.specs.Counts.{zeroed, plus, full}
use Rattle.strategy.specs.declared.Strategies.{Strategies}
use Rattle.strategy.specs.Number.{numbered_of}
use Rattle.pair.specs.declared.Answer.TheVariants as Answers
use Rattle.pair.specs.Pair.{pair_of}
use Rattle.group_frames.specs.Part.{part}
use Rattle.group_frames.specs.Frame.{start_of, end_of, frames_of}
use Rattle.fields.specs.Among.{Among}
use Rattle.group_mates.specs.Promise.{Mates, Once}
use Rattle.group_verdicts.specs.Judged.{both_at, pair_at, judged_at}
use Rattle.group_applying.specs.Applied.{overlaps_in}

-- the list has each pair of mates, and no other; each record stands in at most one
pub record Paired (s : List ℕ) (n : ℕ) (l : List (ℕ × ℕ)) : Type 0 where
  pub all : (i j : ℕ) → Mates s n i j → Among l i j
  pub only : (i j : ℕ) → Among l i j → Mates s n i j
  pub once : Once n l

-- byte x is not one of record k's
abbrev pub Elsewhere : List ℕ → ℕ → ℕ → Type 0
Elsewhere s k x = (x < start_of s k) ⊎ (end_of s k ≤ x)

-- the growth of all pairs, over the bytes given
unfoldable pub pair_growths : Strategies → List ℕ → List (ℕ × ℕ) → CorrectionStats
pair_growths w s [] = zeroed
pair_growths w s (e ∷ l) = plus (pair_at w s e.0 e.1).after.stats (pair_growths w s l)

-- a group s that is accepted with the counts g: n records, p pairs of which o overlap; u and h are what it leaves. `called`: what stands
-- for a pair here is what the pair call gives, with counts from 0
pub record Accepted (w : Strategies) (s : List ℕ) (g : CorrectionStats) (n p o : ℕ) (u : List ℕ) (h : CorrectionStats) : Type 0 where
  pub framed : frames_of s ≡ Ok n
  pub called : (i j : ℕ) → pair_at w s i j ≡ pair_of w (both_at s i j)
  pub passed : (i j : ℕ) (r : Refusal) → Mates s n i j → (pair_at w s i j).answer ≡ Answers.Refused r → ⊥
  pub first : (i j : ℕ) → Mates s n i j → part u (start_of s i) (end_of s i) ≡ (pair_at w s i j).after.first
  pub second : (i j : ℕ) → Mates s n i j → part u (start_of s j) (end_of s j) ≡ (pair_at w s i j).after.second
  pub others : (x : ℕ) → ((i j : ℕ) → Mates s n i j → Elsewhere s i x × Elsewhere s j x) → get_or u x 0 ≡ get_or s x 0
  pub size : length u ≡ length s
  pub numbered : (l : List (ℕ × ℕ)) → Paired s n l → (p ≡ length l) × (o ≡ overlaps_in w s l) × (h ≡ plus g (pair_growths w s l))

-- of the pairs that are judged to be refused, that of the least first's index is refused by r, at the index of its record at fault
pub record FirstRefused (w : Strategies) (s : List ℕ) (n : ℕ) (r : Refusal) : Type 0 where
  pub i : ℕ
  pub j : ℕ
  pub mates : Mates s n i j
  pub refused : judged_at w s i j ≡ Answers.Refused r
  pub before : (i' j' : ℕ) (r' : Refusal) → Mates s n i' j' → i' < i → judged_at w s i' j' ≡ Answers.Refused r' → ⊥

-- the number x, the place y and the operation z of the first check that fails: of the strategies' numbers m and k, the cap, the counts g, the frames of s, its pairs
pub data FirstFailed (m k cap : ℕ) (s : List ℕ) (g : CorrectionStats) : ℕ → ℕ → ℕ → Type 0 where
  by_strategies : numbered_of m k cap ≡ Err Strategy → FirstFailed m k cap s g 10 0 0
  by_cap : numbered_of m k cap ≡ Err Cap → FirstFailed m k cap s g 22 0 0
  by_counts : (w : Strategies) → numbered_of m k cap ≡ Ok w → full g ≡ true → FirstFailed m k cap s g 9 0 0
  by_frames : (w : Strategies) (r : Refusal) → numbered_of m k cap ≡ Ok w → full g ≡ false → frames_of s ≡ Err r → FirstFailed m k cap s g (number_of r) (place_of r) (operation_of r)
  by_pair : (w : Strategies) (n : ℕ) (r : Refusal) → numbered_of m k cap ≡ Ok w → full g ≡ false → frames_of s ≡ Ok n → FirstRefused w s n r
      → FirstFailed m k cap s g (number_of r) (place_of r) (operation_of r)
