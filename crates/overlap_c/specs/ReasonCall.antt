-- What the call that gives the reason tells of the pair call on the same two records, whatever strategies, cap and counts that is given.
use Rattle.std.specs.Prelude.{ℕ, ◌%◌, ◌<◌, ◌≤◌, ◌≡◌, ◌↔◌}
use Rattle.refusal.specs.declared.Refusal.TheVariants.{Count, Strategy, CountsSlice, Cap}
use Rattle.refusal.specs.Table.{code_of}

-- the pair call answered so for nothing but the records: not 15, 10, 22 or 9
pub record OfRecords (answer : ℕ) : Type 0 where
  pub slice : answer ≡ code_of CountsSlice → ⊥
  pub strategies : answer ≡ code_of Strategy → ⊥
  pub cap : answer ≡ code_of Cap → ⊥
  pub counts : answer ≡ code_of Count → ⊥

-- `why` is 0 exactly when the pair call answers 1, 1 to 5 exactly when it answers 0, and else its refusal with 10,000 times an index
pub record Tells (why answer : ℕ) : Type 0 where
  pub overlap : (why ≡ 0) ↔ (answer ≡ 1)
  pub apart : ((0 < why) × (why ≤ 5)) ↔ (answer ≡ 0)
  pub refused : 1 < answer → answer ≡ why % 10000
