-- The pairs are the mates.
use Prim.Native.Nat.{ℕ, zero, suc, ◌+◌, ◌<◌, ◌≤◌}
use mathlib.Core.Path.{◌≡◌, refl, sym, ◌∙◌, ap}
use mathlib.Core.List.{List}
use mathlib.Core.Bool.{Bool, true, false, cond, ◌&&◌}
use mathlib.Core.Logic.{⊎_elim}
use native.Mathlib.Omega.{arith}
use borrow.Author.Tests.{eqb-true, eq-eqb}
use lib.Dec.{eqb}
use Rattle.fields.proofs.Arith.{lt_or_le}
use Rattle.group_mates.specs.Register.{role_at, name_at, fits, holder, mate_of, mates_of, mate_cons, pairs_from, pairs_of}
use Rattle.fields.specs.Among.{Among}
use Rattle.fields.proofs.AmongLaws.{here, later, among_cons, among_none}
use Rattle.group_mates.specs.Promise.{Mates}
use Rattle.group_mates.proofs.OnceLaws.{mated}
use Rattle.group_names.specs.Same.{same_bytes}
use Rattle.group_names.proofs.NameLaws.{and_true, same_true, same_refl}

-- the holder is the last
module _ (P : ℕ → ℕ) (N : ℕ → List ℕ) (q : ℕ) (x : List ℕ) where
  fits_yes : (k : ℕ) → P k ≡ q → N k ≡ x → fits P N q x k ≡ true
  fits_yes k p e = rw (eq-eqb (P k) q p, e) (same_refl x)

  holder_last : (n k : ℕ) → holder P N q x n ≡ suc k → (h : ℕ) → k < h → h < n → P h ≡ q → N h ≡ x → ⊥
  unfolding holder
  holder_last zero k e h a b p w = omega arith
  holder_last (suc n) k e h a b p w = go (holder_last n k) (fits P N q x n) refl e
    where
      go : (holder P N q x n ≡ suc k → (h : ℕ) → k < h → h < n → P h ≡ q → N h ≡ x → ⊥) → (t : Bool) → fits P N q x n ≡ t → cond t (suc n) (holder P N q x n) ≡ suc k → ⊥
      go up true f d = omega arith
      go up false f d =
          ⊎_elim (λ (l : h < n). up d h a l p w)
          (λ (g : n ≤ h). let z : h ≡ n = omega arith in
          let y : fits P N q x n ≡ true = ap (fits P N q x) (sym z) ∙ fits_yes h p w in
          let o : ◌≡◌ {A = ℕ} 0 1 = cc in omega arith)
          (lt_or_le h n)

  holder_is : (n k : ℕ) → k < n → P k ≡ q → N k ≡ x → ((h : ℕ) → k < h → h < n → P h ≡ q → N h ≡ x → ⊥) → holder P N q x n ≡ suc k
  unfolding holder
  holder_is zero k b p w nil = absurd (omega arith)
  holder_is (suc n) k b p w nil =
      ⊎_elim
      (λ (l : k < n). go l (holder_is n k l p w (λ h a c. nil h a (omega arith))) (fits P N q x n) refl)
      (λ (g : n ≤ k). let z : k ≡ n = omega arith in
      let y : fits P N q x n ≡ true = ap (fits P N q x) (sym z) ∙ fits_yes k p w in
      ap (λ (t : Bool). cond t (suc n) (holder P N q x n)) y ∙ ap suc (sym z))
      (lt_or_le k n)
    where
      go : k < n → holder P N q x n ≡ suc k → (t : Bool) → fits P N q x n ≡ t → cond t (suc n) (holder P N q x n) ≡ suc k
      go l up true f =
          let y = and_true (eqb (P n) q) (same_bytes (N n) x) f in
          absurd (nil n l (omega arith) (eqb-true (P n) q y.0) (same_true (N n) x y.1))
      go l up false f = up

-- the pairs are the mates
pub mate_mates : (s : List ℕ) (n i j : ℕ) → i < n → mates_of s n i ≡ suc j → Mates s n i j
unfolding mate_of
mate_mates s n i j b e =
    let m = mated (role_at s) (name_at s) n i j e in
    let h = go (eqb (role_at s i) 1 && eqb (holder (role_at s) (name_at s) 1 (name_at s i) n) (suc i)) e in
    record {
      first = record { below = b; role = m.own; last = holder_last (role_at s) (name_at s) 1 (name_at s i) n i m.held };
      second = record { below = m.mate.below; role = m.mate.role; last = λ k a c p w. holder_last (role_at s) (name_at s) 2 (name_at s i) n j h k a c p (w ∙ m.mate.name) };
      name = m.mate.name;
    }
  where
    go : (t : Bool) → cond t (holder (role_at s) (name_at s) 2 (name_at s i) n) 0 ≡ suc j → holder (role_at s) (name_at s) 2 (name_at s i) n ≡ suc j
    go true e = e
    go false e = absurd (omega arith)

pub mates_mate : (s : List ℕ) (n i j : ℕ) → Mates s n i j → mates_of s n i ≡ suc j
unfolding mate_of
mates_mate s n i j m =
    let f = m.first in
    let g = m.second in
    let a : holder (role_at s) (name_at s) 1 (name_at s i) n ≡ suc i = holder_is (role_at s) (name_at s) 1 (name_at s i) n i f.below f.role refl f.last in
    let b : holder (role_at s) (name_at s) 2 (name_at s i) n ≡ suc j = holder_is (role_at s) (name_at s) 2 (name_at s i) n j g.below g.role m.name (λ h p c q w. g.last h p c q (w ∙ sym m.name)) in
    simp (eq-eqb (role_at s i) 1 f.role, eq-eqb (holder (role_at s) (name_at s) 1 (name_at s i) n) (suc i) a) b

-- what stands in the list made by f
pub record Made (f : ℕ → ℕ) (i j a m : ℕ) : Type 0 where
  pub low : a ≤ i
  pub high : i < a + m
  pub made : f i ≡ suc j

pub among_made : (f : ℕ → ℕ) (m a i j : ℕ) → Among (pairs_from f a m) i j → Made f i j a m
unfolding pairs_from
among_made f zero a i j x = absurd (among_none i j x)
among_made f (suc m) a i j x = go (f a) refl (among_made f m (suc a) i j) x
  where
    up : Made f i j (suc a) m → Made f i j a (suc m)
    up y = record { low = omega (arith, y.low); high = omega (arith, y.high); made = y.made }

    go : (v : ℕ) → f a ≡ v → (Among (pairs_from f (suc a) m) i j → Made f i j (suc a) m) → Among (mate_cons a v (pairs_from f (suc a) m)) i j → Made f i j a (suc m)
    go zero e r y = up (r y)
    go (suc v) e r y =
        ⊎_elim (λ (z : (i ≡ a) × (j ≡ v)). record { low = omega (arith, z.0); high = omega (arith, z.0); made = ap f z.0 ∙ e ∙ ap suc (sym z.1) })
        (λ (z : Among (pairs_from f (suc a) m) i j). up (r z))
        (among_cons (a, v) (pairs_from f (suc a) m) i j y)

pub made_among : (f : ℕ → ℕ) (m a i j : ℕ) → Made f i j a m → Among (pairs_from f a m) i j
unfolding pairs_from
made_among f zero a i j x = absurd (omega (arith, x.low, x.high))
made_among f (suc m) a i j x =
    ⊎_elim
    (λ (l : a < i). skip (f a) (made_among f m (suc a) i j (record { low = omega arith; high = omega (arith, x.high); made = x.made })))
    (λ (g : i ≤ a). let z : i ≡ a = omega (arith, x.low) in
    let e : f a ≡ suc j = ap f (sym z) ∙ x.made in
    rw (e, z) (here (a, j) (pairs_from f (suc a) m)))
    (lt_or_le a i)
  where
    skip : (v : ℕ) → Among (pairs_from f (suc a) m) i j → Among (mate_cons a v (pairs_from f (suc a) m)) i j
    skip zero y = y
    skip (suc v) y = later (a, v) (pairs_from f (suc a) m) i j y

pub among_mates : (s : List ℕ) (n i j : ℕ) → Among (pairs_of s n) i j → Mates s n i j
among_mates s n i j x = let y = among_made (mates_of s n) n 0 i j x in mate_mates s n i j (omega (arith, y.high)) y.made

pub mates_among : (s : List ℕ) (n i j : ℕ) → Mates s n i j → Among (pairs_of s n) i j
mates_among s n i j m = made_among (mates_of s n) n 0 i j (record { low = omega arith; high = omega (arith, m.first.below); made = mates_mate s n i j m })
