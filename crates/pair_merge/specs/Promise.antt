-- What a reader is promised of the shared positions of two records: `s` before, `u` after.
use Rattle.std.specs.Prelude.{ℕ, ◌+◌, ◌/◌, ◌≤◌, ◌<◌, ◌≡◌, List, ◌⊎◌, get_or, length}
use Rattle.fields.specs.declared.Layout.{Layout}
use Rattle.fields.specs.declared.RefPos.{RefPos}
use Rattle.fields.specs.declared.ReadOffset.{ReadOffset}
use Rattle.stats.specs.Counts.{plus}
use Rattle.cigar.specs.Place.{Sits}
use Rattle.bases.specs.Base.{base_at, quality_at}
use Rattle.fields.specs.Among.{Among}
use Rattle.positions.specs.declared.Job.{Job}
use Rattle.positions.specs.Step.{State, Rising, Becomes, growths}
use Rattle.cigar.specs.Operation.{ops_in}

-- base i of the first record and base j of the second sit at one position
pub record Share (y z : Layout) (p q : RefPos) (s : State) (i j : ReadOffset) : Type 0 where
  pub at : RefPos
  pub first : Sits y.count (ops_in y s.first) p i at
  pub second : Sits z.count (ops_in z s.second) q j at

-- the list has each pair of bases that share a position, once, and no other
pub record Names (y z : Layout) (p q : RefPos) (s : State) (l : List (ℕ × ℕ)) : Type 0 where
  pub all : (i j : ReadOffset) → Share y z p q s i j → Among l i.0 j.0
  pub only : (i j : ReadOffset) → Among l i.0 j.0 → Share y z p q s i j
  pub once : Rising l

-- byte k holds neither a base nor a quality
abbrev pub Outside : Layout → ℕ → Type 0
Outside y k = ((k < y.bases) ⊎ (y.qualities + y.count ≤ k)) ⊎ ((y.bases + (y.count + 1) / 2 ≤ k) × (k < y.qualities))

-- base i, or the spare half after an odd number of bases, and quality i are as they were
pub record Stays (y : Layout) (a b : List ℕ) (i : ℕ) : Type 0 where
  pub base : i / 2 < (y.count + 1) / 2 → base_at b y i ≡ base_at a y i
  pub quality : quality_at b y i ≡ quality_at a y i

-- bases that share a position become what the rule gives for their values at entry; all else stays; the counts grow by what
-- the shared positions give, each taken once
pub record Corrected (w : Job) (p q : RefPos) (s u : State) : Type 0 where
  pub both : (i j : ReadOffset) → Share w.first w.second p q s i j → Becomes w s u i.0 j.0
  pub alone₁ : (i : ReadOffset) → ((j : ReadOffset) → Share w.first w.second p q s i j → ⊥) → Stays w.first s.first u.first i.0
  pub alone₂ : (j : ReadOffset) → ((i : ReadOffset) → Share w.first w.second p q s i j → ⊥) → Stays w.second s.second u.second j.0
  pub outside₁ : (k : ℕ) → Outside w.first k → get_or u.first k 0 ≡ get_or s.first k 0
  pub outside₂ : (k : ℕ) → Outside w.second k → get_or u.second k 0 ≡ get_or s.second k 0
  pub length₁ : length u.first ≡ length s.first
  pub length₂ : length u.second ≡ length s.second
  pub positions : List (ℕ × ℕ)
  pub named : Names w.first w.second p q s positions
  pub counts : u.stats ≡ plus s.stats (growths w s.first s.second positions)

-- the values of a slice of bytes
unfoldable pub Bytes : List ℕ → Type 0
Bytes l = (k : ℕ) → get_or l k 0 < 256
