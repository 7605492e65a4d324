-- Two parts of a group, and what the pair call makes of them.
use Rattle.std.specs.Prelude.{ℕ, zero, suc, ◌+◌, ◌-◌, ◌<◌, ◌≤◌, ◌≡◌, List, length, get_or}
use Rattle.stats.specs.Counts.{zeroed}
use Rattle.strategy.specs.declared.Strategies.{Strategies}
use Rattle.positions.specs.Step.{state}
use Rattle.pair_merge.specs.declared.Met.{Met}
use Rattle.pair_judgement.specs.Ready.{Cleared}
use Rattle.pair.specs.Pair.{Outcome, records_of}
use Rattle.group_frames.specs.Part.{part, splice}
use Rattle.group_applying.specs.Applied.{overlap_count}

-- two parts of s, from a to e and from b to h, of which m bytes take the second
pub record Within (s : List ℕ) (m a e b h : ℕ) : Type 0 where
  pub order₁ : a ≤ e
  pub order₂ : b ≤ h
  pub inside₁ : e ≤ length s
  pub inside₂ : h ≤ length s
  pub room : h - b ≤ m

abbrev pub call_in : Strategies → List ℕ → ℕ → ℕ → ℕ → ℕ → Outcome
call_in w s a e b h = records_of w (state (part s a e) (part s b h) zeroed) 1 2

-- how much a pair that shares so many positions adds to the number of overlapping ones
abbrev pub overlap_of : ℕ → ℕ
overlap_of zero = 0
overlap_of (suc n) = 1

-- u has both parts as the pair call leaves them, and r overlaps where its answer says so, and has its counts
pub record BothPut (w : Strategies) (s : List ℕ) (a e b h : ℕ) (u : List ℕ) (r : Met) : Type 0 where
  pub bytes : u ≡ splice (splice s a e (call_in w s a e b h).after.first) b h (call_in w s a e b h).after.second
  pub overlap : overlap_of r.shared ≡ overlap_count (call_in w s a e b h).answer
  pub stats : r.stats ≡ (call_in w s a e b h).after.stats

-- where record k lies, by the table
abbrev pub start_in : List ℕ → ℕ → ℕ
start_in begins k = get_or begins k 0 + 4

abbrev pub end_in : List ℕ → ℕ → ℕ
end_in begins k = get_or begins (k + 1) 0

-- records i and j are in the table, lie in s, and were judged as a pair that is not refused
pub record Given (s : List ℕ) (m : ℕ) (begins : List ℕ) (i j : ℕ) : Type 0 where
  pub few₁ : i < 256
  pub few₂ : j < 256
  pub wide : 257 ≤ length begins
  pub within : Within s m (start_in begins i) (end_in begins i) (start_in begins j) (end_in begins j)
  pub cleared : Cleared (part s (start_in begins i) (end_in begins i)) (part s (start_in begins j) (end_in begins j))
