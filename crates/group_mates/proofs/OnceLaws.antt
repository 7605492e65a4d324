-- Each record is in at most one pair; so there are at most half as many pairs as records.
use Prim.Native.Nat.{ℕ, zero, suc, ◌+◌, ◌*◌, ◌<◌, ◌≤◌}
use mathlib.Core.Path.{◌≡◌, refl, sym, ◌∙◌, ap}
use mathlib.Core.List.{List, [], ◌∷◌}
use mathlib.Core.Bool.{Bool, true, false, cond, ◌&&◌}
use mathlib.Core.Logic.{⊎_elim}
use native.Mathlib.Omega.{arith}
use borrow.Author.Tests.{eqb-true, eqb-false, eq-eqb, ne_eqb}
use lib.Dec.{eqb}
use lib.ListN.{length}
use Rattle.fields.proofs.Arith.{lt_or_le}
use Rattle.group_mates.specs.Register.{role_at, name_at, fits, holder, mate_of, mate_cons, pairs_from, pairs_of}
use Rattle.group_mates.specs.Promise.{one, times, Once}
use Rattle.group_names.specs.Same.{same_bytes}
use Rattle.group_names.proofs.NameLaws.{and_true, cond_suc, same_true}

pub record Holds (P : ℕ → ℕ) (N : ℕ → List ℕ) (q : ℕ) (x : List ℕ) (n k : ℕ) : Type 0 where
  pub below : k < n
  pub role : P k ≡ q
  pub name : N k ≡ x

pub holder_holds : (P : ℕ → ℕ) (N : ℕ → List ℕ) (q : ℕ) (x : List ℕ) (n k : ℕ) → holder P N q x n ≡ suc k → Holds P N q x n k
unfolding holder
holder_holds P N q x zero k e = absurd (omega arith)
holder_holds P N q x (suc n) k e = go (holder_holds P N q x n k) (fits P N q x n) refl e
  where
    go : (holder P N q x n ≡ suc k → Holds P N q x n k) → (t : Bool) → fits P N q x n ≡ t → cond t (suc n) (holder P N q x n) ≡ suc k → Holds P N q x (suc n) k
    go up true f g =
        let p = and_true (eqb (P n) q) (same_bytes (N n) x) f in
        let h : n ≡ k = omega arith in
        record { below = omega arith; role = ap P (sym h) ∙ eqb-true (P n) q p.0; name = ap N (sym h) ∙ same_true (N n) x p.1 }
    go up false f g =
        let r = up g in
        record { below = omega (arith, r.below); role = r.role; name = r.name }

module _ (P : ℕ → ℕ) (N : ℕ → List ℕ) (n : ℕ) where
  pub record Mated (i k : ℕ) : Type 0 where
    pub own : P i ≡ 1
    pub held : holder P N 1 (N i) n ≡ suc i
    pub mate : Holds P N 2 (N i) n k

  pub mated : (i k : ℕ) → mate_of P N n i ≡ suc k → Mated i k
  unfolding mate_of
  mated i k e =
      let p = cond_suc (eqb (P i) 1 && eqb (holder P N 1 (N i) n) (suc i)) (holder P N 2 (N i) n) k e in
      let q = and_true (eqb (P i) 1) (eqb (holder P N 1 (N i) n) (suc i)) p.0 in
      record { own = eqb-true _ _ q.0; held = eqb-true _ _ q.1; mate = holder_holds P N 2 (N i) n k p.1 }

  pub mate_inj : (i j k : ℕ) → mate_of P N n i ≡ suc k → mate_of P N n j ≡ suc k → i ≡ j
  mate_inj i j k e f =
      let p = mated i k e in
      let q = mated j k f in
      let x : N i ≡ N j = sym p.mate.name ∙ q.mate.name in
      omega (arith, sym p.held ∙ ap (λ (y : List ℕ). holder P N 1 y n) x ∙ q.held)

  pub mate_apart : (i k : ℕ) → mate_of P N n i ≡ suc k → mate_of P N n k ≡ 0
  unfolding mate_of
  mate_apart i k e = let p = mated i k e in simp (ne_eqb (P k) 1 (λ z. omega (arith, p.mate.role)))

  pub mate_below : (i k : ℕ) → mate_of P N n i ≡ suc k → k < n
  mate_below i k e = (mated i k e).mate.below

unfoldable firsts : List (ℕ × ℕ) → ℕ → ℕ
firsts [] k = 0
firsts (e ∷ l) k = one (eqb e.0 k) + firsts l k

unfoldable seconds : List (ℕ × ℕ) → ℕ → ℕ
seconds [] k = 0
seconds (e ∷ l) k = one (eqb e.1 k) + seconds l k

times_split : (l : List (ℕ × ℕ)) (k : ℕ) → times l k ≡ firsts l k + seconds l k
unfolding times firsts seconds
times_split [] k = refl
times_split (e ∷ l) k = omega (arith, times_split l k)

one_no : (a b : ℕ) → (a ≡ b → ⊥) → one (eqb a b) ≡ 0
one_no a b h = ap one (ne_eqb a b h)

-- each record of a list of pairs made by a function f that sends no two to one, and none to one that is sent, stands there once
module _ (f : ℕ → ℕ) where
  low_first : (m i k : ℕ) → k < i → firsts (pairs_from f i m) k ≡ 0
  unfolding pairs_from firsts
  low_first zero i k h = refl
  low_first (suc m) i k h = go (low_first m (suc i) k (omega arith)) (f i)
    where
      go : firsts (pairs_from f (suc i) m) k ≡ 0 → (v : ℕ) → firsts (mate_cons i v (pairs_from f (suc i) m)) k ≡ 0
      go up zero = up
      go up (suc j) = omega (arith, one_no i k (λ z. omega arith))

  high_first : (m i k : ℕ) → i + m ≤ k → firsts (pairs_from f i m) k ≡ 0
  unfolding pairs_from firsts
  high_first zero i k h = refl
  high_first (suc m) i k h = go (high_first m (suc i) k (omega arith)) (f i)
    where
      go : firsts (pairs_from f (suc i) m) k ≡ 0 → (v : ℕ) → firsts (mate_cons i v (pairs_from f (suc i) m)) k ≡ 0
      go up zero = up
      go up (suc j) = omega (arith, one_no i k (λ z. omega arith))

  no_first : (k : ℕ) → f k ≡ 0 → (m i : ℕ) → firsts (pairs_from f i m) k ≡ 0
  unfolding pairs_from firsts
  no_first k h zero i = refl
  no_first k h (suc m) i = go (no_first k h m (suc i)) (f i) refl
    where
      go : firsts (pairs_from f (suc i) m) k ≡ 0 → (v : ℕ) → f i ≡ v → firsts (mate_cons i v (pairs_from f (suc i) m)) k ≡ 0
      go up zero e = up
      go up (suc j) e = omega (arith, one_no i k (λ z. omega (arith, ap f z)))

  firsts_one : (k m i : ℕ) → firsts (pairs_from f i m) k ≤ 1
  unfolding pairs_from firsts
  firsts_one k zero i = omega arith
  firsts_one k (suc m) i = go (firsts_one k m (suc i)) (f i)
    where
      at : firsts (pairs_from f (suc i) m) k ≤ 1 → (t : Bool) → eqb i k ≡ t → one t + firsts (pairs_from f (suc i) m) k ≤ 1
      at up true e = omega (arith, low_first m (suc i) k (omega (arith, eqb-true i k e)))
      at up false e = omega arith

      go : firsts (pairs_from f (suc i) m) k ≤ 1 → (v : ℕ) → firsts (mate_cons i v (pairs_from f (suc i) m)) k ≤ 1
      go up zero = up
      go up (suc j) = at up (eqb i k) refl

  no_second : (k m i : ℕ) → ((j : ℕ) → i ≤ j → f j ≡ suc k → ⊥) → seconds (pairs_from f i m) k ≡ 0
  unfolding pairs_from seconds
  no_second k zero i h = refl
  no_second k (suc m) i h = go (no_second k m (suc i) (λ j l e. h j (omega arith) e)) (f i) refl
    where
      go : seconds (pairs_from f (suc i) m) k ≡ 0 → (v : ℕ) → f i ≡ v → seconds (mate_cons i v (pairs_from f (suc i) m)) k ≡ 0
      go up zero e = up
      go up (suc j) e = omega (arith, one_no j k (λ z. h i (omega arith) (e ∙ ap suc z)))

  seconds_one : ((i j k : ℕ) → f i ≡ suc k → f j ≡ suc k → i ≡ j) → (k m i : ℕ) → seconds (pairs_from f i m) k ≤ 1
  unfolding pairs_from seconds
  seconds_one inj k zero i = omega arith
  seconds_one inj k (suc m) i = go (seconds_one inj k m (suc i)) (f i) refl
    where
      at : seconds (pairs_from f (suc i) m) k ≤ 1 → (j : ℕ) → f i ≡ suc j → (t : Bool) → eqb j k ≡ t → one t + seconds (pairs_from f (suc i) m) k ≤ 1
      at up j e true t =
          let g : f i ≡ suc k = e ∙ ap suc (eqb-true j k t) in
          omega (arith, no_second k m (suc i) (λ i' l e'. omega (arith, inj i i' k g e')))
      at up j e false t = omega arith

      go : seconds (pairs_from f (suc i) m) k ≤ 1 → (v : ℕ) → f i ≡ v → seconds (mate_cons i v (pairs_from f (suc i) m)) k ≤ 1
      go up zero e = up
      go up (suc j) e = at up j e (eqb j k) refl

  pub once : ((i j k : ℕ) → f i ≡ suc k → f j ≡ suc k → i ≡ j) → ((i k : ℕ) → f i ≡ suc k → f k ≡ 0) → (m i k : ℕ) → times (pairs_from f i m) k ≤ 1
  once inj apart m i k = go (f k) refl
    where
      go : (v : ℕ) → f k ≡ v → times (pairs_from f i m) k ≤ 1
      go zero e = omega (arith, times_split (pairs_from f i m) k, no_first k e m i, seconds_one inj k m i)
      go (suc j) e = omega (arith, times_split (pairs_from f i m) k, firsts_one k m i, no_second k m i (λ i' l e'. omega (arith, apart i' k e', e)))

  -- a record that is no first, and that no first is sent to, stands nowhere
  pub none_there : (k m : ℕ) → f k ≡ 0 → ((i : ℕ) → f i ≡ suc k → ⊥) → times (pairs_from f 0 m) k ≡ 0
  none_there k m z none = omega (arith, times_split (pairs_from f 0 m) k, no_first k z m 0, no_second k m 0 (λ i l e. none i e))

  pub within : (n : ℕ) → ((i k : ℕ) → f i ≡ suc k → k < n) → (m i k : ℕ) → i + m ≤ n → 0 < times (pairs_from f i m) k → k < n
  within n below m i k h t = ⊎_elim (λ l. l)
      (λ (g : n ≤ k). absurd (omega (arith, times_split (pairs_from f i m) k, high_first m i k (omega arith), no_second k m i (λ j l e. omega (arith, below j k e)))))
      (lt_or_le k n)

-- at most half as many pairs as records
unfoldable sum_to : (ℕ → ℕ) → ℕ → ℕ
sum_to g zero = 0
sum_to g (suc n) = sum_to g n + g n

sum_le : (g : ℕ → ℕ) (n : ℕ) → ((k : ℕ) → g k ≤ 1) → sum_to g n ≤ n
unfolding sum_to
sum_le g zero h = omega arith
sum_le g (suc n) h = omega (arith, sum_le g n h, h n)

sum_none : (x n : ℕ) → n ≤ x → sum_to (λ (k : ℕ). one (eqb x k)) n ≡ 0
unfolding sum_to
sum_none x zero h = refl
sum_none x (suc n) h = omega (arith, sum_none x n (omega arith), one_no x n (λ z. omega arith))

sum_one : (x n : ℕ) → x < n → sum_to (λ (k : ℕ). one (eqb x k)) n ≡ 1
unfolding sum_to
sum_one x zero h = absurd (omega arith)
sum_one x (suc n) h = go (sum_one x n) (eqb x n) refl
  where
    go : (x < n → sum_to (λ (k : ℕ). one (eqb x k)) n ≡ 1) → (t : Bool) → eqb x n ≡ t → sum_to (λ (k : ℕ). one (eqb x k)) n + one t ≡ 1
    go up true e = omega (arith, sum_none x n (omega (arith, eqb-true x n e)))
    go up false e = omega (arith, up (⊎_elim (λ l. l) (λ (g : n ≤ x). absurd (eqb-false x n e (omega arith))) (lt_or_le x n)))

sum_three : (a b c : ℕ → ℕ) (n : ℕ) → sum_to (λ (k : ℕ). a k + b k + c k) n ≡ sum_to a n + sum_to b n + sum_to c n
unfolding sum_to
sum_three a b c zero = refl
sum_three a b c (suc n) = omega (arith, sum_three a b c n)

sum_nought : (n : ℕ) → sum_to (λ (k : ℕ). 0) n ≡ 0
unfolding sum_to
sum_nought zero = refl
sum_nought (suc n) = omega (arith, sum_nought n)

sum_times : (n : ℕ) (l : List (ℕ × ℕ)) → ((k : ℕ) → 0 < times l k → k < n) → sum_to (times l) n ≡ 2 * length l
unfolding times
sum_times n [] h = sum_nought n
sum_times n (e ∷ l) h =
    let a : e.0 < n = h e.0 (omega (arith, ap one (eq-eqb e.0 e.0 refl))) in
    let b : e.1 < n = h e.1 (omega (arith, ap one (eq-eqb e.1 e.1 refl))) in
    omega (arith, sum_three (λ (k : ℕ). one (eqb e.0 k)) (λ (k : ℕ). one (eqb e.1 k)) (times l) n, sum_one e.0 n a, sum_one e.1 n b, sum_times n l (λ k t. h k (omega arith)))

pub half : (n : ℕ) (l : List (ℕ × ℕ)) → ((k : ℕ) → times l k ≤ 1) → ((k : ℕ) → 0 < times l k → k < n) → 2 * length l ≤ n
half n l h w = omega (arith, sum_times n l w, sum_le (times l) n h)

-- the pairs of a group
pub pairs_once : (s : List ℕ) (n : ℕ) → Once n (pairs_of s n)
pairs_once s n = record {
  once = once (mate_of (role_at s) (name_at s) n) (mate_inj (role_at s) (name_at s) n) (mate_apart (role_at s) (name_at s) n) n 0;
  inside = λ k t. within (mate_of (role_at s) (name_at s) n) n (mate_below (role_at s) (name_at s) n) n 0 k (omega arith) t;
}

pub pairs_half : (s : List ℕ) (n : ℕ) → 2 * length (pairs_of s n) ≤ n
pairs_half s n = let o = pairs_once s n in half n (pairs_of s n) o.once o.inside
