-- The view's answer in the paper's numbers, exactly when each is given. Assumes nothing.
use Rattle.std.specs.Prelude.{Ok, Err}
use mathlib.Core.Bool.{Bool, true, false, cond}
use mathlib.Core.List.{List, [], ◌∷◌}
use mathlib.Core.Logic.{◌↔◌}
use mathlib.Core.Path.{◌≡◌, refl, subst}
use Prim.Native.Nat.{ℕ, ◌<◌, ◌≤◌}
use native.Mathlib.Omega.{arith}
use lib.Dec.{ltb}
use lib.ListN.{length}
use borrow.Author.Tests.{ltb-true, ltb-false, lt-ltb, le-ltb}
use Rattle.refusal.specs.declared.Refusal.TheVariants.{RecordShort, RecordLong, NameAndOperations, BasesAndQualities}
use Rattle.fields.specs.Layout.{bases_at, tags_at, layout_of}
use Rattle.fields.specs.Check.{check_of}
use Rattle.view.specs.View.{view_numbers, viewed_by, refused_of}

-- what a record meets, beside the answer: each refusal where those before it are not given
data Found (s : List ℕ) : List ℕ → Type 0 where
  short : length s < 32 → Found s (1 ∷ 0 ∷ [])
  long : 65536 < length s → Found s (2 ∷ 0 ∷ [])
  past : 32 ≤ length s → length s ≤ 65536 → length s < bases_at s → Found s (3 ∷ 0 ∷ [])
  well : 32 ≤ length s → length s ≤ 65536 → bases_at s ≤ length s → Found s (0 ∷ [])

module _ (s : List ℕ) where
  -- what the four tests of the check come to
  tested : Bool → Bool → Bool → Bool → List ℕ
  tested p q r t =
      let last = cond t (Err (BasesAndQualities 0)) (Ok (layout_of s)) in
      view_numbers (viewed_by (cond p (Err (RecordShort 0)) (cond q (Err (RecordLong 0)) (cond r (Err (NameAndOperations 0)) last))))

  -- what is answered was found
  found : Found s (view_numbers (refused_of s))
  unfolding refused_of check_of tested
  found = go (ltb (length s) 32) refl (ltb 65536 (length s)) refl (ltb (length s) (bases_at s)) refl (ltb (length s) (tags_at s))
    where
      go : (p : Bool) → ltb (length s) 32 ≡ p → (q : Bool) → ltb 65536 (length s) ≡ q → (r : Bool) → ltb (length s) (bases_at s) ≡ r
          → (t : Bool) → Found s (tested p q r t)
      go true a q b r c t = short (ltb-true _ _ a)
      go false a true b r c t = long (ltb-true _ _ b)
      go false a false b true c t = past (ltb-false _ _ a) (ltb-false _ _ b) (ltb-true _ _ c)
      go false a false b false c true = well (ltb-false _ _ a) (ltb-false _ _ b) (ltb-false _ _ c)
      go false a false b false c false = well (ltb-false _ _ a) (ltb-false _ _ b) (ltb-false _ _ c)

  -- what is found is answered
  answered : (a : List ℕ) → Found s a → view_numbers (refused_of s) ≡ a
  unfolding refused_of check_of tested
  answered a (short h) = rw (lt-ltb (length s) 32 h)
  answered a (long h) = rw (le-ltb (length s) 32 (omega arith), lt-ltb 65536 (length s) h)
  answered a (past f h l) = rw (le-ltb (length s) 32 f, le-ltb 65536 (length s) h, lt-ltb (length s) (bases_at s) l)
  answered a (well f h l) =
      rw (le-ltb (length s) 32 f, le-ltb 65536 (length s) h, le-ltb (length s) (bases_at s) l) (any (ltb (length s) (tags_at s)))
    where
      any : (t : Bool) → tested false false false t ≡ 0 ∷ []
      any true = refl
      any false = refl

  -- 1 at place 0: under 32 bytes
  pub view_short : (view_numbers (refused_of s) ≡ 1 ∷ 0 ∷ []) ↔ (length s < 32)
  view_short = (λ e. met (subst (Found s) e found), λ h. answered _ (short h))
    where
      met : Found s (1 ∷ 0 ∷ []) → length s < 32
      met (short h) = h

  -- 2 at place 0: over 65,536 bytes
  pub view_long : (view_numbers (refused_of s) ≡ 2 ∷ 0 ∷ []) ↔ (65536 < length s)
  view_long = (λ e. met (subst (Found s) e found), λ h. answered _ (long h))
    where
      met : Found s (2 ∷ 0 ∷ []) → 65536 < length s
      met (long h) = h

  -- 3 at place 0: name and operations reach past the record
  pub view_past : (view_numbers (refused_of s) ≡ 3 ∷ 0 ∷ []) ↔ ((32 ≤ length s) × (length s ≤ 65536) × (length s < bases_at s))
  view_past = (λ e. met (subst (Found s) e found), λ h. answered _ (past h.0 h.1 h.2))
    where
      met : Found s (3 ∷ 0 ∷ []) → (32 ≤ length s) × (length s ≤ 65536) × (length s < bases_at s)
      met (past f h l) = (f, h, l)

  -- 0: none of the three
  pub view_well : (view_numbers (refused_of s) ≡ 0 ∷ []) ↔ ((32 ≤ length s) × (length s ≤ 65536) × (bases_at s ≤ length s))
  view_well = (λ e. met (subst (Found s) e found), λ h. answered _ (well h.0 h.1 h.2))
    where
      met : Found s (0 ∷ []) → (32 ≤ length s) × (length s ≤ 65536) × (bases_at s ≤ length s)
      met (well f h l) = (f, h, l)
