-- The group call keeps its promise, from the whole call on, and no second outcome does.
use Rattle.std.specs.Prelude.{Result, Ok, Err}
use Prim.Native.Nat.{ℕ, ◌+◌, ◌-◌, ◌<◌, ◌≤◌}
use mathlib.Core.Path.{◌≡◌, refl, sym, ◌∙◌, ap, subst, subst₂}
use mathlib.Core.List.{List, [], ◌∷◌}
use mathlib.Core.Bool.{Bool, true, false}
use mathlib.Core.Logic.{◌⊎◌, inl, inr, ⊎_elim, ◌↔◌}
use native.Mathlib.Omega.{arith}
use borrow.Author.Tests.{eqb-true}
use lib.Dec.{eqb}
use lib.ListN.{length, get_or, drop}
use lib.Seq.{ext_get_or, get_or-take, get_or-drop}
use Rattle.fields.proofs.Arith.{lt_or_le}
use Rattle.refusal.specs.declared.Refusal.{Refusal}
use Rattle.refusal.specs.declared.Refusal.TheVariants.{Count, Strategy, Cap}
use Rattle.refusal.specs.Table.{number_of, place_of, operation_of}
use Rattle.stats.specs.declared.CorrectionStats.{CorrectionStats}
use Rattle.stats.specs.Counts.{plus, full}
use Rattle.stats.proofs.CountLaws.{plus_assoc, plus_zero}
use Rattle.strategy.specs.declared.Strategies.{Strategies}
use Rattle.strategy.specs.Cap.{cap_outside}
use Rattle.strategy.specs.Number.{numbered_of}
use Rattle.strategy.proofs.NumberLaws.{are_capped}
use Rattle.pair.proofs.CallLaws.{call_capped, call_records}
use Rattle.pair.specs.declared.Answer.TheVariants as Answers
use Rattle.group_frames.specs.Part.{part}
use Rattle.group_frames.specs.Frame.{begin_of, start_of, end_of, frames_of}
use Rattle.group_frames.proofs.CleanLaws.{whole_clean}
use Rattle.group_mates.specs.Register.{pairs_of}
use Rattle.fields.specs.Among.{Among}
use Rattle.fields.proofs.AmongLaws.{here, later, among_cons, among_none}
use Rattle.group_mates.specs.Promise.{Mates, one, times}
use Rattle.group_mates.proofs.OnceLaws.{pairs_once}
use Rattle.group_mates.proofs.MateLaws.{among_mates, mates_among}
use Rattle.group_verdicts.specs.Judged.{both_at, pair_at}
use Rattle.group_applying.specs.Applied.{grown, overlaps_in}
use Rattle.group_applying.proofs.WrittenLaws.{written_size, written_first, written_second, written_out}
use Rattle.group.specs.declared.GroupAnswer.TheVariants.{Done, Refused}
use Rattle.group.specs.Group.{group_numbers, Ended, ended, on_pairs, on_frames, group_of}
use Rattle.group.specs.Promise.{Paired, Elsewhere, pair_growths, Accepted, FirstRefused, FirstFailed, by_strategies, by_cap, by_counts, by_frames, by_pair}
use Rattle.group.proofs.NamedLaws.{same_length, same_overlaps, same_growths}
use Rattle.group.proofs.FirstLaws.{judgement, judged_first, judged_passed, passed_judged, first_judged}
use Rattle.group.proofs.CaseLaws.{Case, no_strategies, no_cap, full_counts, broken_frames, refused_pair, all_treated, cases, ends_unnamed, ends_full, ends_framed, ends_judged}

-- ---- the pairs
pub paired : (s : List ℕ) (n : ℕ) → Paired s n (pairs_of s n)
paired s n = record { all = mates_among s n; only = among_mates s n; once = pairs_once s n }

-- a record that stands in the list is in a pair of it
times_among : (l : List (ℕ × ℕ)) (k : ℕ) → 0 < times l k → ((j : ℕ) × Among l k j) ⊎ ((j : ℕ) × Among l j k)
unfolding times
times_among [] k h = absurd (omega arith)
times_among (e ∷ l) k h = go (times_among l k) (eqb e.0 k) refl (eqb e.1 k) refl h
  where
    go : (0 < times l k → ((j : ℕ) × Among l k j) ⊎ ((j : ℕ) × Among l j k)) → (t : Bool) → eqb e.0 k ≡ t → (v : Bool) → eqb e.1 k ≡ v → 0 < one t + one v + times l k
        → ((j : ℕ) × Among (e ∷ l) k j) ⊎ ((j : ℕ) × Among (e ∷ l) j k)
    go up true a v b q = inl (e.1, rw (sym (eqb-true e.0 k a)) (here e l))
    go up false a true b q = inr (e.0, rw (sym (eqb-true e.1 k b)) (here e l))
    go up false a false b q = ⊎_elim (λ y. inl (y.0, later e l _ _ y.1)) (λ y. inr (y.0, later e l _ _ y.1)) (up (omega arith))

-- ---- the counts
grown_is : (w : Strategies) (s : List ℕ) (l : List (ℕ × ℕ)) (g : CorrectionStats) → grown w s l g ≡ plus g (pair_growths w s l)
unfolding grown pair_growths
grown_is w s [] g = sym (plus_zero g)
grown_is w s (e ∷ l) g = grown_is w s l (plus g (pair_at w s e.0 e.1).after.stats) ∙ plus_assoc g _ (pair_growths w s l)

-- ---- an accepted group is what the promise says
module _ (w : Strategies) (s : List ℕ) (g : CorrectionStats) (n : ℕ) where
  abbrev after : Ended
  after = on_pairs w s g n (Ok tt)

  -- a byte in no record of a pair of the list is in no record that stands there
  outside : (x : ℕ) → ((i j : ℕ) → Among (pairs_of s n) i j → Elsewhere s i x × Elsewhere s j x) → (k : ℕ) → 0 < times (pairs_of s n) k → Elsewhere s k x
  outside x a k q =
      ⊎_elim (λ (y : (j : ℕ) × Among (pairs_of s n) k j). (a k y.0 y.1).0)
      (λ (y : (j : ℕ) × Among (pairs_of s n) j k). (a y.0 k y.1).1) (times_among (pairs_of s n) k q)

  -- what is left when every pair passes and is treated
  treated : cap_outside w.cap ≡ false → frames_of s ≡ Ok n → judgement w s n ≡ Ok tt
      → Accepted w s g n (length (pairs_of s n)) (overlaps_in w s (pairs_of s n)) after.bytes after.stats
  treated capped framed judged =
      let fit : begin_of s n ≤ length s = omega (arith, (whole_clean s n framed).1.1) in
      let once = pairs_once s n in
      let l = pairs_of s n in
      record {
        framed = framed;
        called = λ i j. call_records w (both_at s i j) refl ∙ call_capped w (both_at s i j) capped;
        passed = judged_passed w s n judged;
        first = λ i j m. written_first w s n fit l s refl once i j (mates_among s n i j m);
        second = λ i j m. written_second w s n fit l s refl once i j (mates_among s n i j m);
        others = λ x a. written_out w s n fit l s refl once x (outside x (λ i j b. a i j (among_mates s n i j b)));
        size = written_size w s n fit l s refl once;
        numbered = λ l' q. (
          same_length w s n l l' (paired s n) q,
          same_overlaps w s n l l' (paired s n) q,
          grown_is w s l g ∙ ap (plus g) (same_growths w s n l l' (paired s n) q),
        );
      }

  -- the counts are those given and each pair's growth, in the order of the list
  pub accepted_grown : (p o : ℕ) (u : List ℕ) (h : CorrectionStats) → Accepted w s g n p o u h → h ≡ grown w s (pairs_of s n) g
  accepted_grown p o u h a = (a.numbered (pairs_of s n) (paired s n)).2 ∙ sym (grown_is w s (pairs_of s n) g)

-- ---- no second outcome fits
-- where byte x lies: in a record of a pair, or in none
pub data Spot (s : List ℕ) (l : List (ℕ × ℕ)) (x : ℕ) : Type 0 where
  in_first : (i j : ℕ) → Among l i j → start_of s i ≤ x → x < end_of s i → Spot s l x
  in_second : (i j : ℕ) → Among l i j → start_of s j ≤ x → x < end_of s j → Spot s l x
  in_none : ((i j : ℕ) → Among l i j → Elsewhere s i x × Elsewhere s j x) → Spot s l x

side : (s : List ℕ) (i x : ℕ) → ((start_of s i ≤ x) × (x < end_of s i)) ⊎ Elsewhere s i x
side s i x = ⊎_elim (λ (a : x < start_of s i). inr (inl a)) (λ (b : start_of s i ≤ x). ⊎_elim (λ (c : x < end_of s i). inl (b, c)) (λ (d : end_of s i ≤ x). inr (inr d)) (lt_or_le x (end_of s i))) (lt_or_le x (start_of s i))

pub locate : (s : List ℕ) (l : List (ℕ × ℕ)) (x : ℕ) → Spot s l x
locate s [] x = in_none (λ i j a. absurd (among_none i j a))
locate s (e ∷ l) x =
    ⊎_elim (λ (a : (start_of s e.0 ≤ x) × (x < end_of s e.0)). in_first e.0 e.1 (here e l) a.0 a.1)
    (λ (a : Elsewhere s e.0 x). ⊎_elim (λ (b : (start_of s e.1 ≤ x) × (x < end_of s e.1)). in_second e.0 e.1 (here e l) b.0 b.1)
    (λ (b : Elsewhere s e.1 x). on a b (locate s l x)) (side s e.1 x)) (side s e.0 x)
  where
    on : Elsewhere s e.0 x → Elsewhere s e.1 x → Spot s l x → Spot s (e ∷ l) x
    on a b (in_first i j z p q) = in_first i j (later e l i j z) p q
    on a b (in_second i j z p q) = in_second i j (later e l i j z) p q
    on a b (in_none f) = in_none (λ i j z. ⊎_elim (λ (y : (i ≡ e.0) × (j ≡ e.1)). (rw y.0 a, rw y.1 b)) (λ (y : Among l i j). f i j y) (among_cons e l i j z))

pub byte_in : (u : List ℕ) (a e x : ℕ) → a ≤ x → x < e → get_or u x 0 ≡ get_or (part u a e) (x - a) 0
byte_in u a e x h k =
    let m : x ≡ a + (x - a) = omega arith in
    ap (λ (z : ℕ). get_or u z 0) m ∙ sym (get_or-drop a u (x - a) 0) ∙ sym (get_or-take (e - a) (drop a u) (x - a) 0 (omega arith))

pub record Same (n p o n' p' o' : ℕ) (u u' : List ℕ) (h h' : CorrectionStats) : Type 0 where
  pub records : n ≡ n'
  pub pairs : p ≡ p'
  pub overlapping : o ≡ o'
  pub bytes : u ≡ u'
  pub counts : h ≡ h'

pub one_outcome : (w : Strategies) (s : List ℕ) (g : CorrectionStats) (n p o n' p' o' : ℕ) (u u' : List ℕ) (h h' : CorrectionStats) → Accepted w s g n p o u h → Accepted w s g n' p' o' u' h' → Same n p o n' p' o' u u' h h'
one_outcome w s g n p o n' p' o' u u' h h' a b =
    let q : Ok n ≡ Ok n' = sym a.framed ∙ b.framed in
    let z : n ≡ n' = cc in
    let c = a.numbered (pairs_of s n) (paired s n) in
    let d = b.numbered (pairs_of s n) (subst (λ (q : ℕ). Paired s q (pairs_of s n)) z (paired s n)) in
    record {
      records = z;
      pairs = c.0 ∙ sym d.0;
      overlapping = c.1 ∙ sym d.1;
      bytes = ext_get_or 0 u u' (a.size ∙ sym b.size) (λ x l. by z x (locate s (pairs_of s n) x));
      counts = c.2 ∙ sym d.2;
    }
  where
    by : n ≡ n' → (x : ℕ) → Spot s (pairs_of s n) x → get_or u x 0 ≡ get_or u' x 0
    by z x (in_first i j t q r) =
        let v = among_mates s n i j t in
        byte_in u (start_of s i) (end_of s i) x q r ∙ ap (λ (c : List ℕ). get_or c (x - start_of s i) 0) (a.first i j v ∙ sym (b.first i j (rw z at v))) ∙ sym (byte_in u' (start_of s i) (end_of s i) x q r)
    by z x (in_second i j t q r) =
        let v = among_mates s n i j t in
        byte_in u (start_of s j) (end_of s j) x q r ∙ ap (λ (c : List ℕ). get_or c (x - start_of s j) 0) (a.second i j v ∙ sym (b.second i j (rw z at v))) ∙ sym (byte_in u' (start_of s j) (end_of s j) x q r)
    by z x (in_none f) =
        let out : (q : ℕ) → n ≡ q → (i j : ℕ) → Mates s q i j → Elsewhere s i x × Elsewhere s j x = λ q y i j v. f i j (mates_among s n i j (rw (sym y) at v)) in
        a.others x (out n refl) ∙ sym (b.others x (out n' z))

-- ---- the whole call, its answer in the paper's numbers
module _ (m k cap : ℕ) (s : List ℕ) (g : CorrectionStats) where
  -- what the whole call gives
  abbrev pub call : Ended
  call = group_of m k cap s g

  -- the answer of a call that ends so
  said : (e : Ended) → call ≡ e → group_numbers call.answer ≡ group_numbers e.answer
  said e d = ap (λ (x : Ended). group_numbers x.answer) d

  -- a group that is answered 0 and three numbers: m and k name strategies, the cap is one, no count is full, and it is accepted by them
  pub accepted : (n p o : ℕ) → group_numbers call.answer ≡ 0 ∷ n ∷ p ∷ o ∷ []
      → (w : Strategies) × (numbered_of m k cap ≡ Ok w) × (full g ≡ false) × Accepted w s g n p o call.bytes call.stats
  accepted n p o e = go (cases m k cap s g)
    where
      Wanted : Type 0
      Wanted = (w : Strategies) × (numbered_of m k cap ≡ Ok w) × (full g ≡ false) × Accepted w s g n p o call.bytes call.stats

      never : (r : Refusal) → call ≡ ended (Refused r) s g → Wanted
      never r d =
          let q : number_of r ∷ place_of r ∷ operation_of r ∷ [] ≡ 0 ∷ n ∷ p ∷ o ∷ [] = sym (said (ended (Refused r) s g) d) ∙ e in
          let z : ◌≡◌ {A = ℕ} 0 1 = cc in absurd (omega arith)

      go : Case m k cap s g call → Wanted
      go (no_strategies a d) = never Strategy d
      go (no_cap a d) = never Cap d
      go (full_counts w a b d) = never Count d
      go (broken_frames w r a b c d) = never r d
      go (refused_pair w n₁ r a b c j d) = never r d
      go (all_treated w n₁ a b c j d) =
          let l = pairs_of s n₁ in
          let q : 0 ∷ n₁ ∷ length l ∷ overlaps_in w s l ∷ [] ≡ 0 ∷ n ∷ p ∷ o ∷ [] = sym (said (on_pairs w s g n₁ (Ok tt)) d) ∙ e in
          let x : n₁ ≡ n = cc in
          let y : length l ≡ p = cc in
          let z : overlaps_in w s l ≡ o = cc in
          (w, a, b, rw (d, sym x, sym y, sym z) (treated w s g n₁ (are_capped m k cap w a).1 c j))

  -- a group that is refused keeps every byte, and the counts stay
  pub refused_keeps : (r : Refusal) (u : List ℕ) (h : CorrectionStats) → call ≡ ended (Refused r) u h → (u ≡ s) × (h ≡ g)
  refused_keeps r u h e = go (cases m k cap s g)
    where
      kept : (q : Refusal) → call ≡ ended (Refused q) s g → (u ≡ s) × (h ≡ g)
      kept q d = let c = sym e ∙ d in (ap (λ (x : Ended). x.bytes) c, ap (λ (x : Ended). x.stats) c)

      go : Case m k cap s g call → (u ≡ s) × (h ≡ g)
      go (no_strategies a d) = kept Strategy d
      go (no_cap a d) = kept Cap d
      go (full_counts w a b d) = kept Count d
      go (broken_frames w q a b c d) = kept q d
      go (refused_pair w n q a b c j d) = kept q d
      go (all_treated w n a b c j d) =
          let q : Refused r ≡ Done n _ _ = ap (λ (x : Ended). x.answer) (sym e ∙ d) in
          let z : ◌≡◌ {A = ℕ} 0 1 = cc in absurd (omega arith)

  -- number x, place y and operation z are answered exactly where the first check that fails gives them
  pub decided : (x y z : ℕ) → (group_numbers call.answer ≡ x ∷ y ∷ z ∷ []) ↔ FirstFailed m k cap s g x y z
  decided x y z = (λ e. to e (cases m k cap s g), from x y z)
    where
      by : (r : Refusal) → group_numbers call.answer ≡ x ∷ y ∷ z ∷ [] → call ≡ ended (Refused r) s g
          → FirstFailed m k cap s g (number_of r) (place_of r) (operation_of r) → FirstFailed m k cap s g x y z
      by r e d f =
          let q : number_of r ∷ place_of r ∷ operation_of r ∷ [] ≡ x ∷ y ∷ z ∷ [] = sym (said (ended (Refused r) s g) d) ∙ e in
          let u : number_of r ≡ x = cc in
          let v : place_of r ≡ y = cc in
          let h : operation_of r ≡ z = cc in
          subst (FirstFailed m k cap s g x y) h (subst₂ (λ (i j : ℕ). FirstFailed m k cap s g i j (operation_of r)) u v f)

      to : group_numbers call.answer ≡ x ∷ y ∷ z ∷ [] → Case m k cap s g call → FirstFailed m k cap s g x y z
      to e (no_strategies a d) = by Strategy e d (by_strategies a)
      to e (no_cap a d) = by Cap e d (by_cap a)
      to e (full_counts w a b d) = by Count e d (by_counts w a b)
      to e (broken_frames w r a b c d) = by r e d (by_frames w r a b c)
      to e (refused_pair w n r a b c j d) = by r e d (by_pair w n r a b c (judged_first w s n r j))
      to e (all_treated w n a b c j d) =
          let q : 0 ∷ n ∷ _ ∷ _ ∷ [] ≡ x ∷ y ∷ z ∷ [] = sym (said (on_pairs w s g n (Ok tt)) d) ∙ e in
          let c : ◌≡◌ {A = ℕ} 0 1 = cc in absurd (omega arith)

      from : (x₁ y₁ z₁ : ℕ) → FirstFailed m k cap s g x₁ y₁ z₁ → group_numbers call.answer ≡ x₁ ∷ y₁ ∷ z₁ ∷ []
      from x₁ y₁ z₁ (by_strategies a) = said _ (ends_unnamed m k cap s g Strategy a)
      from x₁ y₁ z₁ (by_cap a) = said _ (ends_unnamed m k cap s g Cap a)
      from x₁ y₁ z₁ (by_counts w a b) = said _ (ends_full m k cap s g w a b)
      from x₁ y₁ z₁ (by_frames w r a b c) = said _ (ends_framed m k cap s g w a b ∙ ap (on_frames w s g) c)
      from x₁ y₁ z₁ (by_pair w n r a b c f) = said _ (ends_judged m k cap s g w a b n c (Err r) (first_judged w s n r f))

  -- 0 and three numbers, n the first, are answered exactly where m and k name strategies, the cap is one, no count is full, the n frames are whole and no
  -- pair of mates is refused
  pub done_exactly : (n : ℕ) → ((p : ℕ) × (o : ℕ) × (group_numbers call.answer ≡ 0 ∷ n ∷ p ∷ o ∷ []))
      ↔ ((w : Strategies) × (numbered_of m k cap ≡ Ok w) × (full g ≡ false) × (frames_of s ≡ Ok n)
      × ((i j : ℕ) (r : Refusal) → Mates s n i j → (pair_at w s i j).answer ≡ Answers.Refused r → ⊥))
  done_exactly n = (
    λ d. let x = accepted n d.0 d.1 d.2 in (x.0, x.1, x.2, x.3.framed, x.3.passed),
    λ c. (_, _, said _ (ends_judged m k cap s g c.0 c.1 c.2 n c.3 (Ok tt) (passed_judged c.0 s n c.4))),
  )

  -- a group that is refused where strategies, counts and frames are not is refused by the first refused pair
  pub first_refused : (r : Refusal) → call.answer ≡ Refused r
      → (w : Strategies) → numbered_of m k cap ≡ Ok w → full g ≡ false → (n : ℕ) → frames_of s ≡ Ok n → FirstRefused w s n r
  first_refused r e w a b n c = go (judgement w s n) refl
    where
      answer : (v : Result (Unit {0}) Refusal) → judgement w s n ≡ v → Refused r ≡ (on_pairs w s g n v).answer
      answer v d = sym e ∙ ap (λ (x : Ended). x.answer) (ends_judged m k cap s g w a b n c v d)

      go : (v : Result (Unit {0}) Refusal) → judgement w s n ≡ v → FirstRefused w s n r
      go (Err q) d =
          let f : Refused r ≡ Refused q = answer (Err q) d in
          let z : q ≡ r = cc in
          judged_first w s n r (d ∙ ap Err z)
      go (Ok tt) d =
          let f : Refused r ≡ Done n _ _ = answer (Ok tt) d in
          let z : ◌≡◌ {A = ℕ} 0 1 = cc in absurd (omega arith)

  -- no second refusal fits
  pub one_refusal : (x y z x' y' z' : ℕ) → FirstFailed m k cap s g x y z → FirstFailed m k cap s g x' y' z' → (x ≡ x') × (y ≡ y') × (z ≡ z')
  one_refusal x y z x' y' z' a b = let q : x ∷ y ∷ z ∷ [] ≡ x' ∷ y' ∷ z' ∷ [] = sym ((decided x y z).1 a) ∙ (decided x' y' z').1 b in (cc, cc, cc)
