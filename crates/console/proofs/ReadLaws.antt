-- What a read answered, handed on by `moved`: the bytes that it moved. Assumes nothing.
use Rattle.std.proofs.Common.{◌≡◌, ℕ, ◌≤◌, ◌<◌, List, length, take, refl, subst, ◌∙◌}
use Rattle.std.specs.Prelude.{Option, Result, Ok, Err, MatchResult}
use Rattle.std.specs.Io.{ReadsAtMost}
use Rattle.std.specs.Io.KnownBytes.{Consumes, ReadConsumes, IsAtEnd}
use Rattle.std.specs.declared.io.Error.{Error}
use native.Mathlib.Nat.{min-eq_left}
use Rattle.console.specs.Input.{moved_of}

-- an answer that is m bytes is no error, and is of m bytes
gives : (m : ℕ) {r : Result ℕ Error} → Ok m ≡ r → MatchResult r (λ k. m ≡ k) (λ _. ⊥)
gives m answered = subst (λ r. MatchResult r (λ k. m ≡ k) (λ _. ⊥)) answered refl

-- a read with room for `left` bytes that was handed on as m bytes gave them, and none only at the end
pub handed : (got : Result ℕ Error) (m left : ℕ) (a b : Option (List ℕ)) (buf : List ℕ) → Ok m ≡ moved_of got left
    → length buf ≡ left → ReadsAtMost got buf → ReadConsumes a b got buf
    → (m ≤ length buf) × Consumes a b (take m buf) × (m ≡ 0 → 0 < left → IsAtEnd b)
handed (Ok k) m left a b buf answered room within read =
    let fits : k ≤ left = subst (λ n. k ≤ n) room within.0 in
    rw (gives m answered ∙ min-eq_left fits) (within.0, read.0, λ none some. read.1 none (rw room some))
handed (Err why) m left a b buf answered room within read = absurd (gives m answered)
