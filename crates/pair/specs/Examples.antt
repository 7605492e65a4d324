-- The document's judged examples that are to be proved, as one table. Places after "at" are counted from 1.
use Rattle.std.specs.Prelude.{ℕ, ◌+◌, ◌*◌, ◌≡◌, ◌↔◌}
use mathlib.Core.List.{List, [], ◌∷◌, Memᴰ as In}
use Rattle.fields.specs.declared.RefPos.{RefPos}
use Rattle.fields.specs.declared.ReadOffset.{ReadOffset}
use Rattle.bases.specs.Code.{code, N}
use Rattle.stats.specs.Counts.{counts}
use Rattle.strategy.specs.declared.AgreementStrategy.TheVariants as Agree
use Rattle.strategy.specs.declared.DisagreementStrategy.TheVariants as Differ
use Rattle.strategy.specs.declared.Strategies.{Strategies}
use Rattle.strategy.specs.Rule.{out, treated}
use Rattle.cigar.specs.Operation.{read_sum}
use Rattle.cigar.specs.Place.{Sits}

abbrev pub base_a : ℕ
base_a = code "A"

abbrev pub base_t : ℕ
base_t = code "T"

abbrev pub consensus : Strategies
consensus = record { agreement = Agree.Consensus; disagreement = Differ.Consensus; cap = 93 }

-- Consensus in both, on a scale that stops at 40
abbrev pub up_to40 : Strategies
up_to40 = record { agreement = Agree.Consensus; disagreement = Differ.Consensus; cap = 40 }

abbrev pub max_up_to40 : Strategies
max_up_to40 = record { agreement = Agree.MaxQual; disagreement = Differ.MaskLowerQual; cap = 40 }

abbrev pub mask_lower : Strategies
mask_lower = record { agreement = Agree.Consensus; disagreement = Differ.MaskLowerQual; cap = 93 }

-- operations of a length
abbrev pub op_m : ℕ → ℕ
op_m n = n * 16 + 0

abbrev pub op_i : ℕ → ℕ
op_i n = n * 16 + 1

abbrev pub op_d : ℕ → ℕ
op_d n = n * 16 + 2

abbrev pub op_s : ℕ → ℕ
op_s n = n * 16 + 4

-- the position n, counted from 1
abbrev pub at : ℕ → RefPos
at n = record { 0 = n }

-- The alignments x from p on and y from q on, each of as many bases as it uses: base i of x and base j of y sit at position r exactly
-- where i, j, r is in the list (`In` is the library's membership).
abbrev pub MeetAt : List ℕ → RefPos → List ℕ → RefPos → List (ℕ × ℕ × ℕ) → Type 0
MeetAt x p y q l = (i j : ReadOffset) (r : RefPos) → (Sits (read_sum x) x p i r × Sits (read_sum y) y q j r) ↔ In (i.0, j.0, r.0) l

unfoldable pub Examples : Type 0
Examples =
    -- agree, Consensus
    (treated consensus base_a 30 base_a 20 ≡ out base_a 50 base_a 50 (counts 1 1 0 1))
    × (treated consensus base_a 60 base_a 40 ≡ out base_a 93 base_a 93 (counts 1 1 0 1))
    × (treated consensus base_a 255 base_a 255 ≡ out base_a 93 base_a 93 (counts 1 1 0 1))
    × (treated consensus base_a 93 base_a 0 ≡ out base_a 93 base_a 93 (counts 1 1 0 1))
    × (treated consensus base_a 0 base_a 0 ≡ out base_a 0 base_a 0 (counts 1 1 0 0))
    -- disagree, Consensus
    × (treated consensus base_t 30 base_a 10 ≡ out base_t 20 base_t 20 (counts 1 0 1 2))
    × (treated consensus base_t 31 base_a 30 ≡ out base_t 2 base_t 2 (counts 1 0 1 2))
    × (treated consensus base_t 30 base_a 30 ≡ out N 2 N 2 (counts 1 0 1 2))
    × (treated consensus base_t 255 base_a 30 ≡ out base_t 225 base_t 225 (counts 1 0 1 2))
    -- MaskLowerQual
    × (treated mask_lower base_t 10 base_a 30 ≡ out N 2 base_a 30 (counts 1 0 1 1))
    -- the cap 40: agreement under Consensus alone comes down to it
    × (treated up_to40 base_a 30 base_a 9 ≡ out base_a 39 base_a 39 (counts 1 1 0 1))
    × (treated up_to40 base_a 30 base_a 20 ≡ out base_a 40 base_a 40 (counts 1 1 0 1))
    × (treated up_to40 base_a 255 base_a 93 ≡ out base_a 40 base_a 40 (counts 1 1 0 1))
    × (treated up_to40 base_t 255 base_a 30 ≡ out base_t 225 base_t 225 (counts 1 0 1 2))
    × (treated max_up_to40 base_a 60 base_a 50 ≡ out base_a 60 base_a 60 (counts 1 1 0 1))
    × (treated max_up_to40 base_t 10 base_a 60 ≡ out N 2 base_a 60 (counts 1 0 1 1))
    -- places
    × MeetAt (op_s 2 ∷ op_m 3 ∷ op_d 1 ∷ op_m 2 ∷ []) (at 10) (op_m 2 ∷ op_i 1 ∷ op_m 3 ∷ []) (at 12) ((4, 0, 12) ∷ (5, 3, 14) ∷ (6, 4, 15) ∷ [])
    × MeetAt (op_m 4 ∷ []) (at 10) (op_m 1 ∷ []) (at 13) ((3, 0, 13) ∷ [])
    × MeetAt (op_m 4 ∷ []) (at 10) (op_m 1 ∷ []) (at 14) []
    -- a length of 0 places no base
    × MeetAt (op_m 1 ∷ op_m 0 ∷ op_i 1 ∷ op_m 1 ∷ []) (at 10) (op_m 2 ∷ []) (at 10) ((0, 0, 10) ∷ (2, 1, 11) ∷ [])
    × MeetAt (op_m 0 ∷ []) (at 10) (op_m 1 ∷ []) (at 10) []
