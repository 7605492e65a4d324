-- Two cursors that go on to the next position at which both have a base: what they stand for then.
use Rattle.std.specs.Prelude.{ℕ, ◌≤◌, ◌<◌, ◌≡◌, List, [], ◌⊎◌, length}
use Rattle.std.proofs.Math.Option.{Option, none}
use Rattle.cigar.specs.declared.Cursor.{Cursor}
use Rattle.cigar.specs.Passing.{rest_ops, cur_off, read_end, ref_end, Stands}

-- from position p on the cursor stands for the bases of `o`; the read ends in `len` bases, the reference at e
pub record Side (cig : List ℕ) (o : ℕ → Option ℕ) (p len e : ℕ) (c : Cursor) : Type 0 where
  pub ahead : (t : ℕ) → p ≤ t → o t ≡ cur_off cig c t
  pub reads : read_end cig c ≤ len
  pub refs : ref_end cig c ≡ e
  pub within : c.at ≤ length cig
  pub done : c.left ≡ 0 → rest_ops cig c ≡ []

-- a cursor that stands in `cig`, with a base at hand unless there is none left
pub record Ready (cig : List ℕ) (c : Cursor) : Type 0 where
  pub stands : Stands cig c
  pub done : c.left ≡ 0 → rest_ops cig c ≡ []

-- from its position on c stands for the bases of a, and d for those of b; at no position before it had both a base
pub record Skipped (cig₁ cig₂ : List ℕ) (a b c d : Cursor) : Type 0 where
  pub side₁ : Side cig₁ (cur_off cig₁ a) c.position.0 (read_end cig₁ a) (ref_end cig₁ a) c
  pub side₂ : Side cig₂ (cur_off cig₂ b) c.position.0 (read_end cig₂ b) (ref_end cig₂ b) d
  pub up : a.position.0 ≤ c.position.0
  pub on : a.offset.0 ≤ c.offset.0
  pub apart : (t : ℕ) → a.position.0 ≤ t → t < c.position.0 → (cur_off cig₁ a t ≡ none) ⊎ (cur_off cig₂ b t ≡ none)

-- both stand at one position, unless one has no base left
abbrev pub Level : Cursor → Cursor → Type 0
Level c d = (c.left ≡ 0 → ⊥) → (d.left ≡ 0 → ⊥) → c.position.0 ≡ d.position.0
