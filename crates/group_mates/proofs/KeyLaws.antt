-- Keys of records, and the record that has a registration.
use Prim.Native.Nat.{ℕ, zero, suc, ◌+◌, ◌-◌, ◌*◌, ◌/◌, ◌%◌, ◌<◌, ◌≤◌}
use mathlib.Core.Path.{◌≡◌, refl, sym, ◌∙◌, ap}
use mathlib.Core.List.{List}
use mathlib.Core.Bool.{Bool, true, false, cond, ◌&&◌, ◌||◌}
use native.Mathlib.Numerals.{add-one}
use native.Mathlib.Omega.{arith}
use borrow.Author.Tests.{eqb-true, eq-eqb, ne_eqb}
use lib.Dec.{eqb}
use lib.ListN.{get_or}
use Rattle.fields.specs.Flag.{has_bit, first_segment, last_segment, secondary, supplementary}
use Rattle.fields.specs.Layout.{header, name_in}
use Rattle.group_frames.specs.Frame.{record_of}
use Rattle.group_mates.specs.Register.{role_by, role_in, role_at, fits, holder, mate_of}
use Rattle.group_mates.specs.Table.{key_in, Keyed}
use Rattle.group_names.specs.Same.{same_bytes}
use Rattle.group_names.specs.Digest.{digest_of}
use Rattle.group_names.proofs.NameLaws.{same_true}

cond_small : (t : Bool) (a b : ℕ) → a < 3 → b < 3 → cond t a b < 3
cond_small true a b h k = h
cond_small false a b h k = k

pub role_small : (r : List ℕ) → role_in r < 3
unfolding role_in role_by
role_small r =
    let f = (header r).flags in
    cond_small (has_bit f secondary || has_bit f supplementary) 0 _ (omega arith)
    (cond_small (has_bit f first_segment) 1 _ (omega arith) (cond_small (has_bit f last_segment) 2 0 (omega arith) (omega arith)))

module _ (x y : List ℕ) (kx ky q : ℕ) (ex : kx ≡ key_in x) (ey : ky ≡ key_in y) (small : q < 4) where
  -- other keys: another role or another name
  pub not_fits : (kx ≡ ky / 4 * 4 + q → ⊥) → false ≡ (eqb (role_in x) q && same_bytes (name_in x) (name_in y))
  unfolding key_in
  not_fits h = go (eqb (role_in x) q) refl (same_bytes (name_in x) (name_in y)) refl
    where
      go : (t : Bool) → eqb (role_in x) q ≡ t → (u : Bool) → same_bytes (name_in x) (name_in y) ≡ u → false ≡ (t && u)
      go true e true f = absurd (h (omega (arith, ex, ey, eqb-true (role_in x) q e, ap digest_of (same_true (name_in x) (name_in y) f), role_small y)))
      go true e false f = refl
      go false e true f = refl
      go false e false f = refl

  -- equal keys: equal roles
  pub fits_name : (r : Bool) → kx ≡ ky / 4 * 4 + q → r ≡ same_bytes (name_in x) (name_in y) → r ≡ (eqb (role_in x) q && same_bytes (name_in x) (name_in y))
  unfolding key_in
  fits_name r h e = rw (eq-eqb (role_in x) q (omega (arith, ex, ey, h, role_small x))) e

module _ (P : ℕ → ℕ) (N : ℕ → List ℕ) (q : ℕ) (x : List ℕ) (k : ℕ) (h : 0 < k) (r : Bool) (e : r ≡ fits P N q x (k - 1)) where
  up : k ≡ suc (k - 1)
  up = omega arith

  pub holder_yes : r ≡ true → k ≡ holder P N q x k
  unfolding holder
  holder_yes t =
      let f : fits P N q x (k - 1) ≡ true = sym e ∙ t in
      let g : holder P N q x (suc (k - 1)) ≡ suc (k - 1) = ap (λ (b : Bool). cond b (suc (k - 1)) (holder P N q x (k - 1))) f in
      up ∙ sym g ∙ ap (holder P N q x) (sym up)

  pub holder_no : r ≡ false → holder P N q x (k - 1) ≡ holder P N q x k
  unfolding holder
  holder_no t =
      let f : fits P N q x (k - 1) ≡ false = sym e ∙ t in
      let g : holder P N q x (suc (k - 1)) ≡ holder P N q x (k - 1) = ap (λ (b : Bool). cond b (suc (k - 1)) (holder P N q x (k - 1))) f in
      sym g ∙ ap (holder P N q x) (sym up)

pub holder_le : (P : ℕ → ℕ) (N : ℕ → List ℕ) (q : ℕ) (x : List ℕ) (n : ℕ) → holder P N q x n ≤ n
unfolding holder
holder_le P N q x zero = omega arith
holder_le P N q x (suc n) = go (holder_le P N q x n) (fits P N q x n)
  where
    go : holder P N q x n ≤ n → (t : Bool) → cond t (suc n) (holder P N q x n) ≤ suc n
    go h true = omega arith
    go h false = omega arith

key_role : (r : List ℕ) (d : ℕ) → d ≡ key_in r → d % 4 ≡ role_in r
unfolding key_in
key_role r d e = omega (arith, e, role_small r)

-- the role that a record's key has
pub role_of_key : (s key : List ℕ) (n i : ℕ) → Keyed s key n → i < n → get_or key i 0 % 4 ≡ role_at s i
role_of_key s key n i u l = key_role (record_of s i) (get_or key i 0) (u.keys i l)

module _ (P : ℕ → ℕ) (N : ℕ → List ℕ) (n i : ℕ) where
  pub mate_none : (P i ≡ 1 → ⊥) → 0 ≡ mate_of P N n i
  unfolding mate_of
  mate_none h = simp (ne_eqb (P i) 1 h)

  pub mate_superseded : (h : ℕ) → P i ≡ 1 → h ≡ holder P N 1 (N i) n → (h ≡ i + 1 → ⊥) → 0 ≡ mate_of P N n i
  unfolding mate_of
  mate_superseded h p e d = simp (eq-eqb (P i) 1 p, ne_eqb (holder P N 1 (N i) n) (suc i) (λ z. d (e ∙ z ∙ sym (add-one i))))

  pub mate_held : (h r : ℕ) → P i ≡ 1 → h ≡ holder P N 1 (N i) n → h ≡ i + 1 → r ≡ holder P N 2 (N i) n → r ≡ mate_of P N n i
  unfolding mate_of
  mate_held h r p e d f = f ∙ simp (eq-eqb (P i) 1 p, eq-eqb (holder P N 1 (N i) n) (suc i) (sym e ∙ d ∙ add-one i))
