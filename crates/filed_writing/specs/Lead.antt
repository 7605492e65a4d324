-- The table of leads: of each last in a pair, which first it is paired with.
use Rattle.std.specs.Prelude.{ℕ, suc, ◌<◌, ◌≤◌, ◌≡◌, List, length, get_or}

-- the mates are records of the n, and no two records have one mate
pub record Pairing (mate : List ℕ) (n : ℕ) : Type 0 where
  pub few : n ≤ 256
  pub wide : 256 ≤ length mate
  pub below : (i j : ℕ) → i < n → get_or mate i 0 ≡ suc j → j < n
  pub one : (i k j : ℕ) → i < n → k < n → get_or mate i 0 ≡ suc j → get_or mate k 0 ≡ suc j → i ≡ k

-- one more than the index of the record that each record is the mate of; 0: none
pub record Led (mate lead : List ℕ) (n : ℕ) : Type 0 where
  pub wide : 256 ≤ length lead
  pub named : (i j : ℕ) → i < n → get_or mate i 0 ≡ suc j → get_or lead j 0 ≡ suc i
  pub only : (i j : ℕ) → j < n → get_or lead j 0 ≡ suc i → (i < n) × (get_or mate i 0 ≡ suc j)
