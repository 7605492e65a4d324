-- The trailer of a filed group: what it says, when it is wrong, and how it is made.
use Rattle.std.specs.Prelude.{ℕ, ◌+◌, ◌<◌, ◌≡◌, Bool, not, ◌||◌, ◌&&◌, List, ◌++◌, ltb, eqb, drop, set, replicate, Result, MatchResult}
use Rattle.fields.specs.Number.{unsigned, put}
use Rattle.stats.specs.declared.CorrectionStats.{CorrectionStats}
use Rattle.stats.specs.Counts.{above}
use Rattle.stats.specs.Tally.{counts_at, with_counts}
use Rattle.filed_trailer.specs.declared.Trailer.{Trailer}
use Rattle.filed_trailer.specs.declared.State.{State}
use Rattle.filed_trailer.specs.declared.State.TheVariants.{Raw, Corrected}
use Rattle.filed_trailer.specs.declared.UnknownState.{UnknownState}

-- the byte of a state
abbrev pub state_byte : State → ℕ
state_byte Raw = 0
state_byte Corrected = 1

-- the state of this byte; an error for a byte above 1
abbrev pub Names : ℕ → Result State UnknownState → Type 0
Names byte r = MatchResult r (λ state. state_byte state ≡ byte) (λ e. (e.0 ≡ byte) × (1 < byte))

-- each field of the trailer that begins at p, from its width and its offset
abbrev pub trailer_at : List ℕ → ℕ → Trailer
trailer_at s p =
    record {
      state = unsigned 1 s (p + 4);
      strategies = unsigned 1 s (p + 5);
      records = unsigned 4 s (p + 6);
      growth = counts_at s (p + 10);
      distance = unsigned 8 s (p + 42);
    }

-- 21, for n records that take p bytes: state above 1, strategies above 8, record count or distance not the frames' own, a growth not 0 while raw
abbrev pub wrong : Trailer → ℕ → ℕ → Bool
wrong t n p =
    ltb 1 t.state || ltb 8 t.strategies || not (eqb t.records n) || not (eqb t.distance p) || (eqb t.state 0 && above 0 t.growth)

-- the trailer of a corrected group: of the raw one only state and growths change
abbrev pub stamped : List ℕ → CorrectionStats → List ℕ
stamped t g = with_counts (set t 4 1) 10 g

-- the trailer of a raw group: zeros, but for strategies, record count and distance
unfoldable pub raw_trailer : ℕ → ℕ → ℕ → List ℕ
raw_trailer strategies records distance = put 8 (put 4 (set (replicate 50 0) 5 strategies) 6 records) 42 distance

-- the same in the first 50 bytes of t
abbrev pub raw_in : List ℕ → ℕ → ℕ → ℕ → List ℕ
raw_in t strategies records distance = raw_trailer strategies records distance ++ drop 50 t
