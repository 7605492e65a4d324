-- What a shared position becomes: the first record's base x with quality a, the second's base y with quality b.
use Rattle.std.specs.Prelude.{ℕ, ◌+◌, ◌-◌, min, max, cond, ◌&&◌, ◌||◌, eqb, ltb, leb}
use Rattle.bases.specs.Code.{N}
use Rattle.stats.specs.declared.CorrectionStats.{CorrectionStats}
use Rattle.stats.specs.Counts.{counts, zeroed}
use Rattle.strategy.specs.declared.AgreementStrategy.{AgreementStrategy}
use Rattle.strategy.specs.declared.AgreementStrategy.TheVariants as Agree
use Rattle.strategy.specs.declared.DisagreementStrategy.{DisagreementStrategy}
use Rattle.strategy.specs.declared.DisagreementStrategy.TheVariants as Differ
use Rattle.strategy.specs.declared.Strategies.{Strategies}
use Rattle.strategy.specs.declared.Treated.{Treated}

abbrev pub out : ℕ → ℕ → ℕ → ℕ → CorrectionStats → Treated
out x a y b g = record { base1 = x; qual1 = a; base2 = y; qual2 = b; growth = g }

-- the quality that a base of quality a gets beside an equal base of quality b, by the strategy and the cap: the cap binds Consensus alone
abbrev pub qual_by : AgreementStrategy → ℕ → ℕ → ℕ → ℕ
qual_by Agree.Consensus cap a b = min (a + b) cap
qual_by Agree.MaxQual cap a b = max a b
qual_by Agree.PassThrough cap a b = a

abbrev pub agreed_qual : Strategies → ℕ → ℕ → ℕ
agreed_qual w a b = qual_by w.agreement w.cap a b

-- both bases x stay and their qualities a and b become p and q: `corrected` grows by 1 if either changed
abbrev pub agreed_to : ℕ → ℕ → ℕ → ℕ → ℕ → Treated
agreed_to x a b p q = out x p x q (counts 1 1 0 (cond (eqb a p && eqb b q) 0 1))

abbrev pub agreed : Strategies → ℕ → ℕ → ℕ → Treated
agreed w x a b = agreed_to x a b (agreed_qual w a b) (agreed_qual w b a)

-- what a base x of quality a becomes beside another base y of quality b
abbrev pub differed_base : DisagreementStrategy → ℕ → ℕ → ℕ → ℕ → ℕ
differed_base Differ.Consensus x a y b = cond (eqb a b) N (cond (ltb a b) y x)
differed_base Differ.MaskBoth x a y b = N
differed_base Differ.MaskLowerQual x a y b = cond (leb a b) N x

abbrev pub differed_qual : DisagreementStrategy → ℕ → ℕ → ℕ
differed_qual Differ.Consensus a b = max ((a - b) + (b - a)) 2
differed_qual Differ.MaskBoth a b = 2
differed_qual Differ.MaskLowerQual a b = cond (leb a b) 2 a

abbrev pub differed_count : DisagreementStrategy → ℕ → ℕ → ℕ
differed_count Differ.Consensus a b = 2
differed_count Differ.MaskBoth a b = 2
differed_count Differ.MaskLowerQual a b = cond (eqb a b) 2 1

abbrev pub differed_to : ℕ → ℕ → ℕ → ℕ → ℕ → Treated
differed_to x a y b n = out x a y b (counts 1 0 1 n)

abbrev pub differed : DisagreementStrategy → ℕ → ℕ → ℕ → ℕ → Treated
differed k x a y b =
    differed_to (differed_base k x a y b) (differed_qual k a b) (differed_base k y b x a) (differed_qual k b a) (differed_count k a b)

-- an N on either side: nothing changes or counts; equal codes agree
unfoldable pub treated : Strategies → ℕ → ℕ → ℕ → ℕ → Treated
treated w x a y b =
    cond (eqb x N || eqb y N) (out x a y b zeroed)
    (cond (eqb x y) (agreed w x a b) (differed w.disagreement x a y b))
