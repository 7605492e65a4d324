-- Where the bases of two alignments meet, position by position.
use Prim.Native.Nat.{ℕ, zero, suc, ◌+◌, ◌≤◌, ◌<◌}
use mathlib.Core.Path.{◌≡◌, refl, sym, ap, ◌∙◌}
use mathlib.Core.List.Memᴰ.{head as first}
use mathlib.Core.List.Memᴰ.{tail as later}
use mathlib.Core.List.{List, [], ◌∷◌, Memᴰ as In}
use mathlib.Core.List.Memᴰ.{cases_cons}
use mathlib.Core.List.Memᴰ.{not-nil}
use mathlib.Core.Option.{Option, none, some}
use mathlib.Core.Logic.{◌⊎◌, inl, inr, ⊎_elim}
use native.Mathlib.Omega.{arith}
use Rattle.fields.specs.declared.RefPos.{RefPos}
use Rattle.fields.proofs.Arith.{lt_or_le}
use Rattle.cigar.specs.Operation.{read_sum, ref_sum}
use Rattle.cigar.specs.Place.{Sits}
use Rattle.cigar.specs.Found.{base_on}
use Rattle.cigar.proofs.SitsLaws.{sits_found, sits_off, found_sits, off_within}
use Rattle.pair.specs.Examples.{MeetAt}

-- two offsets at position r, where both have a base there
abbrev pub meet_cons : Option ℕ → Option ℕ → ℕ → List (ℕ × ℕ × ℕ) → List (ℕ × ℕ × ℕ)
meet_cons none b r l = l
meet_cons (some i) none r l = l
meet_cons (some i) (some j) r l = (i, j, r) ∷ l

-- both offsets, and the position, at each of the n positions from r on at which both have a base
unfoldable pub meet_from : (ℕ → Option ℕ) → (ℕ → Option ℕ) → ℕ → ℕ → List (ℕ × ℕ × ℕ)
meet_from f g r zero = []
meet_from f g r (suc n) = meet_cons (f r) (g r) r (meet_from f g (suc r) n)

-- for the alignments x from p on and y from q on
abbrev pub meetings : List ℕ → RefPos → List ℕ → RefPos → List (ℕ × ℕ × ℕ)
meetings x p y q = meet_from (base_on (read_sum x) x p.0) (base_on (read_sum y) y q.0) p.0 (ref_sum x)

module _ (f g : ℕ → Option ℕ) (i j u : ℕ) where
  abbrev Meet : Type 0
  Meet = (f u ≡ some i) × (g u ≡ some j)

  -- what the list has at its front is a meeting
  front_only : (r : ℕ) (l : List (ℕ × ℕ × ℕ)) (a b : Option ℕ) → f r ≡ a → g r ≡ b → In (i, j, u) (meet_cons a b r l) → Meet ⊎ In (i, j, u) l
  front_only r l none b e k h = inr h
  front_only r l (some a) none e k h = inr h
  front_only r l (some a) (some b) e k h = ⊎_elim (λ q. inl (met (λ s. (q s).0) (λ s. (q s).1) (λ s. (q s).2))) (λ q. inr q) (cases_cons h)
    where
      met : i ≡ a → j ≡ b → u ≡ r → Meet
      met x y z = ((cc), (cc))

  -- a meeting at r stands at the front
  front_all : (r : ℕ) (l : List (ℕ × ℕ × ℕ)) (a b : Option ℕ) → a ≡ some i → b ≡ some j → u ≡ r → In (i, j, u) (meet_cons a b r l)
  front_all r l none b e k h = let z : ◌≡◌ {A = ℕ} 0 1 = cc in absurd (omega arith)
  front_all r l (some a) none e k h = let z : ◌≡◌ {A = ℕ} 0 1 = cc in absurd (omega arith)
  front_all r l (some a) (some b) e k h =
      let m : i ≡ a = cc in
      let n : j ≡ b = cc in
      first (λ s. (m s, n s, h s))

  -- the front hides no later one
  behind : (r : ℕ) (l : List (ℕ × ℕ × ℕ)) (a b : Option ℕ) → In (i, j, u) l → In (i, j, u) (meet_cons a b r l)
  behind r l none b h = h
  behind r l (some a) none h = h
  behind r l (some a) (some b) h = later h

  -- whatever the list has is a meeting
  only : (r n : ℕ) → In (i, j, u) (meet_from f g r n) → Meet
  unfolding meet_from
  only r zero h = absurd (not-nil h)
  only r (suc n) h = ⊎_elim (λ m. m) (λ k. only (suc r) n k) (front_only r (meet_from f g (suc r) n) (f r) (g r) refl refl h)

  -- and it has every meeting of the n positions from r on
  all : (r n : ℕ) → r ≤ u → u < r + n → f u ≡ some i → g u ≡ some j → In (i, j, u) (meet_from f g r n)
  unfolding meet_from
  all r zero low high e k = absurd (omega arith)
  all r (suc n) low high e k =
      ⊎_elim (λ h. behind r (meet_from f g (suc r) n) (f r) (g r) (all (suc r) n (omega arith) (omega arith) e k))
      (λ h. let s : u ≡ r = omega arith in front_all r (meet_from f g (suc r) n) (f r) (g r) (ap f (sym s) ∙ e) (ap g (sym s) ∙ k) s)
      (lt_or_le r u)

-- the list computed so has the bases that sit at one position, and no other
pub meet_at : (x : List ℕ) (p : RefPos) (y : List ℕ) (q : RefPos) → MeetAt x p y q (meetings x p y q)
meet_at x p y q i j r = (to, from)
  where
    to : Sits (read_sum x) x p i r × Sits (read_sum y) y q j r → In (i.0, j.0, r.0) (meetings x p y q)
    to s =
        let w = off_within x p.0 i.0 r.0 (sits_off s.0) in
        all (base_on (read_sum x) x p.0) (base_on (read_sum y) y q.0) i.0 j.0 r.0 p.0 (ref_sum x) w.1 w.2 (sits_found s.0) (sits_found s.1)

    from : In (i.0, j.0, r.0) (meetings x p y q) → Sits (read_sum x) x p i r × Sits (read_sum y) y q j r
    from h =
        let m = only (base_on (read_sum x) x p.0) (base_on (read_sum y) y q.0) i.0 j.0 r.0 p.0 (ref_sum x) h in
        (found_sits (read_sum x) x p.0 i.0 r.0 m.0, found_sits (read_sum y) y q.0 j.0 r.0 m.1)
