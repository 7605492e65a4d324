-- What a reader is promised of the pairs: they are the mates, and each record is in at most one.
use Rattle.std.specs.Prelude.{ℕ, ◌+◌, ◌<◌, ◌≤◌, Bool, true, false, List, [], ◌∷◌, ◌≡◌, eqb}
use Rattle.group_mates.specs.Register.{role_at, name_at}

-- record i of n has the registration of role q: no later one has its role and name
pub record Registered (s : List ℕ) (n q i : ℕ) : Type 0 where
  pub below : i < n
  pub role : role_at s i ≡ q
  pub last : (k : ℕ) → i < k → k < n → role_at s k ≡ q → name_at s k ≡ name_at s i → ⊥

-- records i and j are a pair: a registered first and a registered last of one name
pub record Mates (s : List ℕ) (n i j : ℕ) : Type 0 where
  pub first : Registered s n 1 i
  pub second : Registered s n 2 j
  pub name : name_at s j ≡ name_at s i

abbrev pub one : Bool → ℕ
one true = 1
one false = 0

-- how often record k stands in the list
unfoldable pub times : List (ℕ × ℕ) → ℕ → ℕ
times [] k = 0
times (e ∷ l) k = one (eqb e.0 k) + one (eqb e.1 k) + times l k

-- records of n, each at most once
pub record Once (n : ℕ) (l : List (ℕ × ℕ)) : Type 0 where
  pub once : (k : ℕ) → times l k ≤ 1
  pub inside : (k : ℕ) → 0 < times l k → k < n
