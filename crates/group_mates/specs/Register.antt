-- Who is paired with whom.
use Rattle.std.specs.Prelude.{ℕ, zero, suc, Bool, cond, ◌&&◌, ◌||◌, List, [], ◌∷◌, eqb}
use Rattle.fields.specs.Flag.{has_bit, first_segment, last_segment, secondary, supplementary}
use Rattle.fields.specs.Layout.{header, name_in}
use Rattle.group_frames.specs.Frame.{record_of}
use Rattle.group_names.specs.Same.{same_bytes}

-- the role that flags register: none (0) where secondary or supplementary is set; first (1) with that flag, even if last is set; else last (2); else none
unfoldable pub role_by : ℕ → ℕ
role_by f = cond (has_bit f secondary || has_bit f supplementary) 0 (cond (has_bit f first_segment) 1 (cond (has_bit f last_segment) 2 0))

unfoldable pub role_in : List ℕ → ℕ
role_in r = role_by (header r).flags

-- of record k of the group s
abbrev pub role_at : List ℕ → ℕ → ℕ
role_at s k = role_in (record_of s k)

abbrev pub name_at : List ℕ → ℕ → List ℕ
name_at s k = name_in (record_of s k)

-- below, P and N give the role and the name of each record
-- whether record k is of role q and name x
abbrev pub fits : (ℕ → ℕ) → (ℕ → List ℕ) → ℕ → List ℕ → ℕ → Bool
fits P N q x k = eqb (P k) q && same_bytes (N k) x

-- one more than the index of the record, of the first n, that has the registration of role q and name x: the last of that
-- role and name, as a later record takes an earlier one's; 0: none
unfoldable pub holder : (ℕ → ℕ) → (ℕ → List ℕ) → ℕ → List ℕ → ℕ → ℕ
holder P N q x zero = 0
holder P N q x (suc n) = cond (fits P N q x n) (suc n) (holder P N q x n)

-- one more than the index of the last that is paired with record i, where i has a first's registration; 0: none
unfoldable pub mate_of : (ℕ → ℕ) → (ℕ → List ℕ) → ℕ → ℕ → ℕ
mate_of P N n i = cond (eqb (P i) 1 && eqb (holder P N 1 (N i) n) (suc i)) (holder P N 2 (N i) n) 0

abbrev pub mate_cons : ℕ → ℕ → List (ℕ × ℕ) → List (ℕ × ℕ)
mate_cons i zero l = l
mate_cons i (suc j) l = (i, j) ∷ l

-- the pairs (first, last) that f gives for the m records from i on, in order of the first's index
unfoldable pub pairs_from : (ℕ → ℕ) → ℕ → ℕ → List (ℕ × ℕ)
pairs_from f i zero = []
pairs_from f i (suc m) = mate_cons i (f i) (pairs_from f (suc i) m)

-- of the n records of the group s
abbrev pub mates_of : List ℕ → ℕ → ℕ → ℕ
mates_of s n = mate_of (role_at s) (name_at s) n

abbrev pub pairs_of : List ℕ → ℕ → List (ℕ × ℕ)
pairs_of s n = pairs_from (mates_of s n) 0 n
