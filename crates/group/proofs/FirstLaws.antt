-- The first refused pair: the verdict over the listed pairs, in the reader's words and back.
use Rattle.std.specs.Prelude.{Result, Ok, Err}
use Prim.Native.Nat.{ℕ, zero, suc, ◌<◌, ◌≤◌}
use mathlib.Core.Path.{◌≡◌, refl, sym, ◌∙◌, ap, ap₂, subst}
use mathlib.Core.List.{List, [], ◌∷◌}
use mathlib.Core.Logic.{◌⊎◌, ⊎_elim}
use native.Mathlib.Omega.{arith}
use Rattle.fields.proofs.Arith.{lt_or_le}
use Rattle.refusal.specs.declared.Refusal.{Refusal}
use Rattle.strategy.specs.declared.Strategies.{Strategies}
use Rattle.pair.specs.declared.Answer.{Answer}
use Rattle.pair.specs.declared.Answer.TheVariants as Answers
use Rattle.group_mates.specs.Register.{mates_of, mate_cons, pairs_from, pairs_of}
use Rattle.fields.specs.Among.{Among}
use Rattle.fields.proofs.AmongLaws.{among_cons, among_none}
use Rattle.group_mates.specs.Promise.{Mates}
use Rattle.group_mates.proofs.MateLaws.{Made, mate_mates, mates_mate, mates_among}
use Rattle.group_verdicts.specs.Judged.{pair_at, judged_at, Named, answered, verdict_at, on_verdict, judge_by}
use Rattle.group_verdicts.proofs.PlaceLaws.{named, judged_called, called_judged}
use Rattle.group.specs.Promise.{FirstRefused}

-- ---- all pairs pass
-- a refusal isn't a pass
no_refusal : (r : Refusal) → ◌≡◌ {A = Result (Unit {0}) Refusal} (Err r) (Ok tt) → ⊥
no_refusal r e = let z : ◌≡◌ {A = ℕ} 0 1 = cc in omega arith

-- where all pass, each pair of the list does
all_passed : (v : ℕ → ℕ → Result (Unit {0}) Refusal) (l : List (ℕ × ℕ)) → judge_by v l ≡ Ok tt → (i j : ℕ) → Among l i j → v i j ≡ Ok tt
unfolding judge_by
all_passed v [] e i j a = absurd (among_none i j a)
all_passed v (d ∷ l) e i j a = go (all_passed v l) (v d.0 d.1) refl e
  where
    go : (judge_by v l ≡ Ok tt → (i j : ℕ) → Among l i j → v i j ≡ Ok tt)
        → (x : Result (Unit {0}) Refusal) → v d.0 d.1 ≡ x → on_verdict x (judge_by v l) ≡ Ok tt → v i j ≡ Ok tt
    go up (Ok done) f g = ⊎_elim (λ (z : (i ≡ d.0) × (j ≡ d.1)). ap₂ v z.0 z.1 ∙ f) (λ (z : Among l i j). up g i j z) (among_cons d l i j a)
    go up (Err r) f g = absurd (no_refusal r g)

-- a pair that passes isn't refused
not_refused : (a : Answer) (r : Refusal) → answered a ≡ Ok tt → a ≡ Answers.Refused r → ⊥
not_refused a r e f = no_refusal r (sym (ap answered f) ∙ e)

-- ---- which refusal: that of the first pair that is refused, of those that f makes for m records from a on
record First (w : Strategies) (s : List ℕ) (f : ℕ → ℕ) (a m : ℕ) (r : Refusal) : Type 0 where
  i : ℕ
  j : ℕ
  made : Made f i j a m
  refused : judged_at w s i j ≡ Answers.Refused r
  before : (i' j' : ℕ) (r' : Refusal) → Made f i' j' a m → i' < i → judged_at w s i' j' ≡ Answers.Refused r' → ⊥

module _ (w : Strategies) (s : List ℕ) (f : ℕ → ℕ) (r : Refusal) where
  -- record a is in no refused pair, so the first is behind it
  wider : (a m : ℕ) → ((j : ℕ) (r' : Refusal) → f a ≡ suc j → judged_at w s a j ≡ Answers.Refused r' → ⊥)
      → First w s f (suc a) m r → First w s f a (suc m) r
  wider a m ok b = record {
    i = b.i;
    j = b.j;
    made = record { low = omega (arith, b.made.low); high = omega (arith, b.made.high); made = b.made.made };
    refused = b.refused;
    before = λ i' j' r' x l y.
        ⊎_elim (λ (q : a < i'). b.before i' j' r' (record { low = omega arith; high = omega (arith, x.high); made = x.made }) l y)
        (λ (q : i' ≤ a). let z : i' ≡ a = omega (arith, x.low) in ok j' r' (ap f (sym z) ∙ x.made) (ap (λ (c : ℕ). judged_at w s c j') (sym z) ∙ y))
        (lt_or_le a i');
  }

  -- the judgement stops at the first
  stops : (m a : ℕ) → judge_by (verdict_at w s) (pairs_from f a m) ≡ Err r → First w s f a m r
  unfolding judge_by pairs_from
  stops zero a e = absurd (no_refusal r (sym e))
  stops (suc m) a e = go (f a) refl (stops m (suc a)) e
    where
      passes : (j : ℕ) (x : Answer) → f a ≡ suc j → judged_at w s a j ≡ x → answered x ≡ Ok tt
          → (j' : ℕ) (r' : Refusal) → f a ≡ suc j' → judged_at w s a j' ≡ Answers.Refused r' → ⊥
      passes j x d q ok j' r' d' t =
          let z : j ≡ j' = omega (arith, sym d ∙ d') in
          not_refused x r' ok (sym q ∙ ap (judged_at w s a) z ∙ t)

      at : (j : ℕ) (x : Answer) → f a ≡ suc j → judged_at w s a j ≡ x
          → (judge_by (verdict_at w s) (pairs_from f (suc a) m) ≡ Err r → First w s f (suc a) m r)
          → on_verdict (answered x) (judge_by (verdict_at w s) (pairs_from f (suc a) m)) ≡ Err r → First w s f a (suc m) r
      at j (Answers.Refused y) d q rest t =
          let b : y ≡ r = cc in
          record {
            i = a;
            j = j;
            made = record { low = omega arith; high = omega arith; made = d };
            refused = q ∙ ap Answers.Refused b;
            before = λ i' j' r' x' l y'. omega (arith, x'.low);
          }
      at j (Answers.NoOverlap x) d q rest t = wider a m (passes j (Answers.NoOverlap x) d q refl) (rest t)
      at j Answers.Overlap d q rest t = wider a m (passes j Answers.Overlap d q refl) (rest t)

      go : (v : ℕ) → f a ≡ v → (judge_by (verdict_at w s) (pairs_from f (suc a) m) ≡ Err r → First w s f (suc a) m r)
          → judge_by (verdict_at w s) (mate_cons a v (pairs_from f (suc a) m)) ≡ Err r → First w s f a (suc m) r
      go zero d rest t = wider a m (λ j r' z q. omega (arith, sym d ∙ z)) (rest t)
      go (suc j) d rest t = at j (judged_at w s a j) d refl rest t

-- ---- the pairs of the group s of n records
module _ (w : Strategies) (s : List ℕ) (n : ℕ) where
  -- what the pairs in the order of the list are judged to be
  abbrev pub judgement : Result (Unit {0}) Refusal
  judgement = judge_by (verdict_at w s) (pairs_of s n)

  -- a refusal is that of the first refused pair
  pub judged_first : (r : Refusal) → judgement ≡ Err r → FirstRefused w s n r
  judged_first r e =
      let b = stops w s (mates_of s n) r n 0 e in
      record {
        i = b.i;
        j = b.j;
        mates = mate_mates s n b.i b.j (omega (arith, b.made.high)) b.made.made;
        refused = b.refused;
        before = λ i' j' r' x l y. b.before i' j' r' (record { low = omega arith; high = omega (arith, x.first.below); made = mates_mate s n i' j' x }) l y;
      }

  -- all pass exactly where no pair of mates is refused
  pub judged_passed : judgement ≡ Ok tt → (i j : ℕ) (r : Refusal) → Mates s n i j → (pair_at w s i j).answer ≡ Answers.Refused r → ⊥
  judged_passed e i j r m f = let q = called_judged w s i j r f in not_refused (judged_at w s i j) q.0 (all_passed (verdict_at w s) (pairs_of s n) e i j (mates_among s n i j m)) q.1

  pub passed_judged : ((i j : ℕ) (r : Refusal) → Mates s n i j → (pair_at w s i j).answer ≡ Answers.Refused r → ⊥) → judgement ≡ Ok tt
  passed_judged f = go judgement refl
    where
      go : (v : Result (Unit {0}) Refusal) → judgement ≡ v → v ≡ Ok tt
      go (Ok done) e = refl
      go (Err r) e = let b = judged_first r e in let q = judged_called w s b.i b.j r b.refused in absurd (f b.i b.j q.0 b.mates q.1)

  -- no second refusal is that of the first refused pair
  one_first : (r q : Refusal) → FirstRefused w s n r → FirstRefused w s n q → r ≡ q
  one_first r q a b =
      let x : a.i ≡ b.i = same (lt_or_le a.i b.i) (lt_or_le b.i a.i) in
      let y : a.j ≡ b.j = omega (arith, sym (mates_mate s n a.i a.j a.mates) ∙ ap (mates_of s n) x ∙ mates_mate s n b.i b.j b.mates) in
      let t : Answers.Refused r ≡ Answers.Refused q = sym a.refused ∙ ap₂ (judged_at w s) x y ∙ b.refused in
      cc
    where
      same : (a.i < b.i) ⊎ (b.i ≤ a.i) → (b.i < a.i) ⊎ (a.i ≤ b.i) → a.i ≡ b.i
      same u v =
          ⊎_elim (λ (l : a.i < b.i). absurd (b.before a.i a.j r a.mates l a.refused))
          (λ (m : b.i ≤ a.i).
          ⊎_elim (λ (l : b.i < a.i). absurd (a.before b.i b.j q b.mates l b.refused)) (λ (m' : a.i ≤ b.i). omega arith) v)
          u

  -- so the first refused pair decides the judgement
  pub first_judged : (r : Refusal) → FirstRefused w s n r → judgement ≡ Err r
  first_judged r b = go judgement refl
    where
      go : (v : Result (Unit {0}) Refusal) → judgement ≡ v → v ≡ Err r
      go (Ok done) e = let q = judged_called w s b.i b.j r b.refused in absurd (judged_passed e b.i b.j q.0 b.mates q.1)
      go (Err q) e = ap Err (one_first q r (judged_first q e) b)

  -- the pair call refuses that pair too: by the same number, at record 1 where the group names i and at record 2 where it names j
  pub first_named : (r : Refusal) (b : FirstRefused w s n r) → Named b.i b.j (pair_at w s b.i b.j).answer (Answers.Refused r)
  first_named r b = subst (Named b.i b.j (pair_at w s b.i b.j).answer) b.refused (named w s b.i b.j)
