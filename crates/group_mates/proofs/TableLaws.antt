-- One turn of each loop that fills a table.
use Prim.Native.Nat.{ℕ, ◌+◌, ◌<◌, ◌≤◌}
use mathlib.Core.Path.{◌≡◌, ◌∙◌}
use mathlib.Core.List.{List, ◌++◌}
use native.Mathlib.Nat.{lt_irrefl}
use native.Mathlib.Omega.{arith}
use borrow.Author.Count.{below_more}
use lib.ListN.{length, get_or, set, take, drop, length-append, length-drop, get_or-append}
use lib.Seq.{get_or-set_same, get_or-set_other, length-take-le}
use Rattle.group_frames.specs.Frame.{record_of}
use Rattle.group_mates.specs.Register.{mates_of}
use Rattle.group_mates.specs.Table.{key_in, Keyed, Mated}

abbrev pub keys_of : List ℕ → ℕ → ℕ
keys_of s k = key_in (record_of s k)

-- the entries of a table below k are what f says
abbrev pub Entered : (ℕ → ℕ) → List ℕ → ℕ → Type 0
Entered f t k = (j : ℕ) → j < k → get_or t j 0 ≡ f j

pub entered_next : (f : ℕ → ℕ) (t : List ℕ) (k v : ℕ) → Entered f t k → k < length t → v ≡ f k → Entered f (set t k v) (k + 1)
entered_next f t k v h l e =
    below_more _ k
    (λ j b. get_or-set_other t k j v 0 (λ w. lt_irrefl k (rw w at b)) ∙ h j b)
    (get_or-set_same t k v 0 l ∙ e)

-- the first n entries of a table, one for each record
pub front_long : (t : List ℕ) (n : ℕ) → 256 ≤ length t → n ≤ 256 → length (take n t) ≡ n
front_long t n w few = length-take-le n t (omega (arith, w, few))

-- a table whose first n entries were entered, and were as many as `items`
module _ (t items : List ℕ) (n k : ℕ) (w : 256 ≤ length t) (few : n ≤ 256) (same : length items ≡ length (take n t)) (over : length (take n t) ≤ k) where
  long : length items ≡ n
  long = same ∙ front_long t n w few

  filled_wide : 256 ≤ length (items ++ drop n t)
  filled_wide = omega (arith, length-append items (drop n t), long, length-drop n t, w, few)

  filled : (f : ℕ → ℕ) → Entered f items k → Entered f (items ++ drop n t) n
  filled f h j b = get_or-append items (drop n t) 0 j (omega (arith, long)) ∙ h j (omega (arith, long, same, over))

  pub entered_keys : (s : List ℕ) → Entered (keys_of s) items k → Keyed s (items ++ drop n t) n
  entered_keys s h = record { wide = filled_wide; keys = filled (keys_of s) h }

  pub entered_mates : (s : List ℕ) → Entered (mates_of s n) items k → Mated s (items ++ drop n t) n
  entered_mates s h = record { wide = filled_wide; mates = filled (mates_of s n) h }
