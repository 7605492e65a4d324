-- The whole answer, by the stages of the code.
use Prim.Native.Nat.{ℕ, ◌+◌, ◌-◌, ◌<◌, ◌≤◌}
use Rattle.std.specs.Prelude.{min}
use Rattle.std.proofs.lemmas.List.{take_min}
use mathlib.Core.Path.{◌≡◌, refl, sym, ap, ◌∙◌}
use mathlib.Core.List.{List, ◌++◌}
use mathlib.Core.Option.{Option, none, some}
use mathlib.Core.Logic.{⊎_elim}
use native.Mathlib.Omega.{arith}
use borrow.Author.Tests.{lt-ltb, le-ltb}
use borrow.Rule.Slice.PartMut.{take_put, drop_put}
use lib.ListN.{length, take, drop, take-append-drop, length-drop}
use lib.Seq.{take_all, take-append-le, drop-append-le, drop-append-add}
use Rattle.fields.proofs.Arith.{lt_or_le}
use Rattle.refusal.specs.declared.Refusal.{Refusal}
use Rattle.refusal.specs.declared.Refusal.TheVariants.{Input, Strategy}
use Rattle.stats.specs.declared.CorrectionStats.{CorrectionStats}
use Rattle.stats.specs.Counts.{zeroed}
use Rattle.strategy.specs.declared.AgreementStrategy.{AgreementStrategy}
use Rattle.strategy.specs.Number.{agreement_of, both, numbered_of}
use Rattle.group_frames.specs.Part.{part, splice}
use Rattle.group_frames.proofs.PartLaws.{length_part, part_put}
use Rattle.group.specs.declared.Grouped.{Grouped}
use Rattle.group.specs.declared.GroupAnswer.{GroupAnswer}
use Rattle.group.specs.declared.GroupAnswer.TheVariants.{Done, Refused}
use Rattle.group.specs.Group.{ended, on_numbered, group_of}
use Rattle.group.proofs.PromiseLaws.{refused_keeps}
use Rattle.line_text.specs.Line.{done_text, refusal_text}
use Rattle.line_text.specs.Output.{Output, alone}
use Rattle.line_text.specs.Put.{Put}
use Rattle.line_overlap.specs.Overlap.{number_at, output_by, output_of, overlap_of}
use Rattle.line_overlap.specs.Told.{Told}

-- ---- a line and no group: the input is as it came
told_line : (s out out' t : List ℕ) (r group : ℕ) → alone t ≡ overlap_of s → Put out 0 t out' r × (r ≤ 256) × (group ≡ 0) → Told s s s out out' r group
told_line s out out' t r group e (p, h, z) =
    rw z (record {
      said = p.bytes ∙ ap (λ (o : Output). o.line) e;
      given = ap (λ (o : Output). o.group) e;
      room = h;
      rest = p.rest;
      inside = omega arith;
      digits = refl;
      behind = refl;
    })

pub too_long : (s out out' : List ℕ) (r group : ℕ) → 65536 < length s → Put out 0 (refusal_text Input) out' r × (r ≤ 256) × (group ≡ 0) → Told s s s out out' r group
unfolding overlap_of
too_long s out out' r group h p = told_line s out out' (refusal_text Input) r group (rw (lt-ltb 65536 (length s) h)) p

module _ (s : List ℕ) (fits : length s ≤ 65536) where
  opened : overlap_of s ≡ output_of (group_of (number_at s 0) (number_at s 1) 93 (drop 2 s) zeroed)
  unfolding overlap_of
  opened = rw (le-ltb 65536 (length s) fits)

  no_digits_text : length s < 2 → alone (refusal_text Strategy) ≡ overlap_of s
  unfolding group_of numbered_of
  no_digits_text h =
      let e : number_at s 1 ≡ 3 = rw (le-ltb 1 (length s) (omega arith)) in
      rw (opened, e) (go (agreement_of (number_at s 0)))
    where
      go : (m : Option AgreementStrategy) → alone (refusal_text Strategy) ≡ output_of (on_numbered (drop 2 s) zeroed (both m none 93))
      go none = refl
      go (some m) = refl

  pub no_digits : (out out' : List ℕ) (r group : ℕ) → length s < 2 → Put out 0 (refusal_text Strategy) out' r × (r ≤ 256) × (group ≡ 0) → Told s s s out out' r group
  no_digits out out' r group h p = told_line s out out' (refusal_text Strategy) r group (no_digits_text h) p

  -- ---- the group was called, on the bytes from 2 on
  module _ (m k : ℕ) (em : m ≡ number_at s 0) (ek : k ≡ number_at s 1) (two : 2 ≤ length s) (z : CorrectionStats) (ez : z ≡ zeroed) (g : Grouped) (u : List ℕ)
      (eg : ended g.answer u g.stats ≡ group_of m k 93 (part s 2 (length s)) z) (size : length u ≡ length (part s 2 (length s))) (a : GroupAnswer) (ea : g.answer ≡ a) where
    rest : part s 2 (length s) ≡ drop 2 s
    rest = take_all (length s - 2) (drop 2 s) (omega (arith, length-drop 2 s))

    told : output_by a (ended a u g.stats) ≡ overlap_of s
    told =
        ap (λ (x : GroupAnswer). output_of (ended x u g.stats)) (sym ea)
        ∙ ap output_of (eg ∙ (λ i. group_of (em i) (ek i) 93 (rest i) (ez i))) ∙ sym opened

    kept : (r : Refusal) → a ≡ Refused r → splice s 2 (length s) u ≡ s
    kept r e =
        let w : u ≡ part s 2 (length s) = (refused_keeps m k 93 (part s 2 (length s)) z r u g.stats (sym eg ∙ ap (λ (x : GroupAnswer). ended x u g.stats) (ea ∙ e))).0 in
        ap (splice s 2 (length s)) w ∙ ap (λ (x : List ℕ). take 2 s ++ x) (take-append-drop (length s - 2) (drop 2 s)) ∙ take-append-drop 2 s

    pub refused_group : (r : Refusal) → a ≡ Refused r → (out out' : List ℕ) (n group : ℕ) → Put out 0 (refusal_text r) out' n × (n ≤ 256) × (group ≡ 0)
        → Told s s (splice s 2 (length s) u) out out' n group
    refused_group r e out out' n group p =
        let t : alone (refusal_text r) ≡ overlap_of s = sym (ap (λ (x : GroupAnswer). output_by x (ended x u g.stats)) e) ∙ told in
        rw (kept r e) (told_line s out out' (refusal_text r) n group t p)

    pub done_group : (x y v : ℕ) → a ≡ Done x y v → (out out' : List ℕ) (n : ℕ) → Put out 0 (done_text x y v g.stats) out' n → n ≤ 256
        → Told s s (splice s 2 (length s) u) out out' n (length s - 2)
    done_group x y v e out out' n p l =
        let h : length u ≡ length s - 2 = size ∙ length_part s 2 (length s) two (omega arith) in
        let q : part (splice s 2 (length s) u) 2 (length s) ≡ u = part_put s u 2 (length s) two (omega arith) h in
        let r : 2 + (length s - 2) ≡ length s = omega arith in
        let w : output_by (Done x y v) (ended a u g.stats) ≡ overlap_of s = sym (ap (λ (t : GroupAnswer). output_by t (ended t u g.stats)) e) ∙ told in
        record {
          said = p.bytes ∙ ap (λ (o : Output). o.line) w;
          given = q ∙ ap (λ (o : Output). o.group) w;
          room = l;
          rest = p.rest;
          inside = omega arith;
          digits = take_put 2 (length s - 2) s u two;
          behind = rw r (drop_put 2 (length s) s u two (omega arith) h);
        }

-- ---- the input is the front of a longer one
module _ (s t x : List ℕ) (h : length x ≡ length s) where
  take_both : (k : ℕ) → take k x ≡ take k s → take k (x ++ t) ≡ take k (s ++ t)
  take_both k e =
      ⊎_elim
      (λ (l : k < length s). take-append-le k x t (omega arith) ∙ e ∙ sym (take-append-le k s t (omega arith)))
      (λ (l : length s ≤ k). ap (λ (y : List ℕ). take k (y ++ t)) (sym (take_all k x (omega arith)) ∙ e ∙ take_all k s l))
      (lt_or_le k (length s))

  drop_both : (k : ℕ) → drop k x ≡ drop k s → drop k (x ++ t) ≡ drop k (s ++ t)
  drop_both k e =
      ⊎_elim
      (λ (l : k < length s). drop-append-le k x t (omega arith) ∙ ap (λ (y : List ℕ). y ++ t) e ∙ sym (drop-append-le k s t (omega arith)))
      (λ (l : length s ≤ k). let z : k ≡ length s + (k - length s) = omega arith in
      let w : k ≡ length x + (k - length s) = omega arith in
      ap (λ (i : ℕ). drop i (x ++ t)) w ∙ drop-append-add x t (k - length s) ∙ sym (drop-append-add s t (k - length s)) ∙ ap (λ (i : ℕ). drop i (s ++ t)) (sym z))
      (lt_or_le k (length s))

  group_in_lem : (k : ℕ) → k ≤ length s - 2 → take k (drop 2 (x ++ t)) ≡ take k (drop 2 x)
  group_in_lem k l =
      ⊎_elim
      (λ (f : length s < 2). let z : k ≡ 0 = omega arith in rw z)
      (λ (f : 2 ≤ length s). ap (take k) (drop-append-le 2 x t (omega arith)) ∙ take-append-le k (drop 2 x) t (omega (arith, length-drop 2 x)))
      (lt_or_le (length s) 2)

  pub widened : (out out' : List ℕ) (line group : ℕ) → Told s s x out out' line group → Told s (s ++ t) (x ++ t) out out' line group
  widened out out' line group p = record {
    said = p.said;
    given = group_in_lem group p.inside ∙ p.given;
    room = p.room;
    rest = p.rest;
    inside = p.inside;
    digits = take_both 2 p.digits;
    behind = drop_both (2 + group) p.behind;
  }

pub front_told : (n k : ℕ) (input x out out' : List ℕ) (line group : ℕ) → k ≡ min n (length input) → length x ≡ length (take k input)
    → Told (take k input) (take k input) x out out' line group → Told (take n input) input (x ++ drop k input) out out' line group
front_told n k input x out out' line group e h p =
    let q = widened (take k input) (drop k input) x h out out' line group p in
    let z : take k input ≡ take n input = ap (λ (i : ℕ). take i input) e ∙ take_min n input in
    rw z at (rw take-append-drop at q)
