-- Laws of the walk over a record's operations, and what its answers show.
use Rattle.std.specs.Prelude.{Result, Ok, Err}
use Rattle.cigar.specs.declared.Totals.{Totals}
use Prim.Native.Nat.{ℕ, zero, suc, ◌+◌, ◌-◌, ◌*◌, ◌/◌, ◌%◌, ◌≤◌, ◌<◌}
use mathlib.Core.Path.{◌≡◌, refl, sym, ap, ap₂, ◌∙◌}
use mathlib.Core.List.{List, [], ◌∷◌}
use mathlib.Core.Bool.{Bool, true, false, cond, ◌&&◌, not}
use native.Mathlib.Omega.{arith}
use lib.ListN.{length, take}
use lib.Seq.{length-take-le}
use lib.Dec.{eqb, ltb}
use borrow.Author.Tests.{lt-ltb, le-ltb, eq-eqb, ne_eqb, eqb-true, ltb-false}
use Rattle.refusal.specs.declared.Refusal.TheVariants.{ReadTotal, ReferenceEnd}
use Rattle.fields.specs.declared.Layout.{Layout}
use Rattle.fields.specs.Number.{unsigned}
use Rattle.cigar.specs.Operation.{Kind, Both, Reference, Read, Neither, Unknown, kind_of, kind, read_len, ref_len, read_sum, ref_sum, operations, ops_in}
use Rattle.cigar.specs.declared.Extent.{Extent}
use Rattle.cigar.specs.Judge.{on_kind, fault_or, walk_of, judged, operations_of, extent, span_of, totals}
use Rattle.cigar.proofs.PlaceLaws.{kind_bad, ops_step, ops_short}
use Rattle.cigar.proofs.CursorLaws.{le_take}

-- at a code of 0 to 8 the walk goes on
pub known_kind : (c i : ℕ) (x : Result Totals ℕ) → c ≤ 8 → on_kind (kind_of c) i x ≡ x
known_kind zero i x h = refl
known_kind (suc zero) i x h = refl
known_kind (suc (suc zero)) i x h = refl
known_kind (suc (suc (suc zero))) i x h = refl
known_kind (suc (suc (suc (suc zero)))) i x h = refl
known_kind (suc (suc (suc (suc (suc zero))))) i x h = refl
known_kind (suc (suc (suc (suc (suc (suc zero)))))) i x h = refl
known_kind (suc (suc (suc (suc (suc (suc (suc zero))))))) i x h = refl
known_kind (suc (suc (suc (suc (suc (suc (suc (suc zero)))))))) i x h = refl
known_kind (suc (suc (suc (suc (suc (suc (suc (suc (suc n))))))))) i x h = absurd (omega arith)

-- what the walk has left to say of operations whose indexes begin at i, with so much used before them
abbrev pub from_here : List ℕ → ℕ → ℕ → ℕ → Result Totals ℕ
from_here ops i q r = fault_or ops i (Ok (totals (q + read_sum ops) (r + ref_sum ops)))

pub record Walking (l : List ℕ) (from end at q r : ℕ) : Type 0 where
  pub low : at ≤ end
  pub on : from ≤ at
  pub reads : q ≤ at * 268435456
  pub refs : r ≤ at * 268435456
  pub left : from_here (operations at end l) ((at - from) / 4) q r ≡ walk_of (operations from end l)

totals_as : (ops : List ℕ) (i j a b c d : ℕ) → i ≡ j → a ≡ b → c ≡ d → fault_or ops i (Ok (totals a c)) ≡ fault_or ops j (Ok (totals b d))
totals_as ops i j a b c d g e f = ap₂ (λ (x y : ℕ). fault_or ops i (Ok (totals x y))) e f ∙ ap (λ (k : ℕ). fault_or ops k (Ok (totals b d))) g

module _ (l : List ℕ) (from end : ℕ) (fits : end ≤ length l) where
  pub walking_start : from ≤ end → Walking l from end from 0 0
  walking_start h =
      let ops = operations from end l in
      record { low = h; on = omega arith; reads = omega arith; refs = omega arith; left = totals_as ops _ _ _ _ _ _ (omega arith) (omega arith) (omega arith) }

  module _ (at q r : ℕ) (h : Walking l from end at q r) where
    long : length (take end l) ≡ end
    long = length-take-le end l fits

    pub walking_end : end - at < 4 → Ok (totals q r) ≡ walk_of (operations from end l)
    unfolding fault_or read_sum ref_sum
    walking_end k =
        let none : operations at end l ≡ [] = ops_short (take end l) at (omega (arith, long)) in
        ap₂ (λ (x y : ℕ). Ok (totals x y)) (omega arith) (omega arith) ∙ (rw none at h.left)

    module _ (w : ℕ) (more : at + 4 ≤ end) (is : w ≡ unsigned 4 l at) where
      rest : List ℕ
      rest = operations (at + 4) end l

      split : operations at end l ≡ w ∷ operations (at + 4) end l
      split = ops_step (take end l) at (omega (arith, long)) ∙ ap (λ (x : ℕ). x ∷ operations (at + 4) end l) (le_take 4 l end at more ∙ sym is)

      -- the index of the operation after this one
      index : (at + 4 - from) / 4 ≡ suc ((at - from) / 4)
      index = omega (arith, h.on)

      next : on_kind (kind w) ((at - from) / 4) (from_here (operations (at + 4) end l) ((at + 4 - from) / 4) (q + read_len w) (r + ref_len w)) ≡ walk_of (operations from end l)
      unfolding fault_or read_sum ref_sum
      next =
          ap (on_kind (kind w) ((at - from) / 4)) (totals_as (operations (at + 4) end l) _ _ _ _ _ _ index (omega arith) (omega arith))
          ∙ (rw split at h.left)

      pub walking_code : (i : ℕ) → i ≡ (at - from) / 4 → 8 < w % 16 → Err i ≡ walk_of (operations from end l)
      walking_code i e k = ap Err e ∙ (rw (kind_bad (w % 16) k) at next)

      pub walking_turn : (a b : ℕ) → w < 4294967296 → w % 16 ≤ 8 → (a ≡ read_len w) × (a ≤ w / 16) → (b ≡ ref_len w) × (b ≤ w / 16)
          → Walking l from end (at + 4) (q + a) (r + b)
      walking_turn a b hw hc ha hb =
          record {
            low = more;
            on = omega (arith, h.on);
            reads = omega (arith, h.reads, ha.1);
            refs = omega (arith, h.refs, hb.1);
            left = rw (ha.0, hb.0) (sym (known_kind (w % 16) ((at - from) / 4) _ hc) ∙ next);
          }

-- ---- what is judged of the walk's answer
module _ (y : Layout) (l : List ℕ) (place : ℕ) where
  pub judged_as : (w w' : Result Totals ℕ) → w ≡ walk_of (ops_in y l) → w ≡ w' → judged y.count (length (ops_in y l)) place w' ≡ operations_of y l place
  unfolding operations_of
  judged_as w w' e f = ap (judged y.count (length (ops_in y l)) place) (sym f ∙ e)

  and_false : (b : Bool) → b && false ≡ false
  and_false true = refl
  and_false false = refl

  module _ (q r : ℕ) (w : Result Totals ℕ) (e : w ≡ walk_of (ops_in y l)) (f : w ≡ Ok (totals q r)) where
    pub judged_empty : y.count ≡ 0 → Ok r ≡ operations_of y l place
    judged_empty h = (rw (le-ltb 0 y.count (omega arith)) at (judged_as w (Ok (totals q r)) e f))

    pub judged_none : y.bases ≤ length l → y.bases - y.operations < 4 → Ok r ≡ operations_of y l place
    judged_none h k =
        let long = length-take-le y.bases l h in
        let none : (ops_in y l) ≡ [] = ops_short (take y.bases l) y.operations (omega (arith, long)) in
        let short : ltb 0 (length (ops_in y l)) ≡ false = ap (λ (o : List ℕ). ltb 0 (length o)) none in
        (rw (short, and_false (ltb 0 y.count)) at (judged_as w (Ok (totals q r)) e f))

    pub judged_total : q ≡ y.count → Ok r ≡ operations_of y l place
    judged_total h =
        (rw (eq-eqb q y.count h, and_false (ltb 0 y.count && ltb 0 (length (ops_in y l)))) at (judged_as w (Ok (totals q r)) e f))

    pub judged_wrong : (y.count ≡ 0 → ⊥) → y.bases ≤ length l → 4 ≤ y.bases - y.operations → (q ≡ y.count → ⊥) → Err (ReadTotal place) ≡ operations_of y l place
    judged_wrong hc hl hn h =
        let long = length-take-le y.bases l hl in
        let one = ops_step (take y.bases l) y.operations (omega (arith, long)) in
        let some : ltb 0 (length (ops_in y l)) ≡ true = lt-ltb 0 (length (ops_in y l)) (omega (arith, ap length one)) in
        (rw (lt-ltb 0 y.count (omega arith), some, ne_eqb q y.count h) at (judged_as w (Ok (totals q r)) e f))

  -- ---- what an answer that is no refusal shows
  through_kind : (k : Kind) (i : ℕ) (x : Result Totals ℕ) (q r : ℕ) → on_kind k i x ≡ Ok (totals q r) → x ≡ Ok (totals q r)
  through_kind Both i x q r e = e
  through_kind Reference i x q r e = e
  through_kind Read i x q r e = e
  through_kind Neither i x q r e = e
  through_kind Unknown i x q r e = let z : ◌≡◌ {A = ℕ} 0 1 = cc in absurd (omega arith)

  good_totals : (ops : List ℕ) (i : ℕ) (good : Result Totals ℕ) (q r : ℕ) → fault_or ops i good ≡ Ok (totals q r) → good ≡ Ok (totals q r)
  unfolding fault_or
  good_totals [] i good q r e = e
  good_totals (w ∷ ws) i good q r e = good_totals ws (suc i) good q r (through_kind (kind w) i _ q r e)

  pub record Used (uses : ℕ) : Type 0 where
    pub reference : uses ≡ ref_sum (ops_in y l)
    pub read : 0 < y.count → read_sum (ops_in y l) ≤ y.count

  pub good_uses : (uses : ℕ) → operations_of y l place ≡ Ok uses → Used uses
  unfolding operations_of read_sum
  good_uses uses e = go (walk_of (ops_in y l)) refl e
    where
      total : (q r : ℕ) → ◌≡◌ {A = Result Totals ℕ} (Ok (totals (read_sum (ops_in y l)) (ref_sum (ops_in y l)))) (Ok (totals q r)) → (ops : List ℕ) → ops ≡ (ops_in y l)
          → (s t u : Bool) → ltb 0 y.count ≡ s → ltb 0 (length ops) ≡ t → eqb q y.count ≡ u
          → cond (s && t && not u) (Err (ReadTotal place)) (Ok r) ≡ Ok uses → Used uses
      total q r f ops eo true true true es et eu g =
          let t : totals (read_sum (ops_in y l)) (ref_sum (ops_in y l)) ≡ totals q r = cc in
          let a : ref_sum (ops_in y l) ≡ r = ap (λ (x : Totals). x.reference) t in
          let b : read_sum (ops_in y l) ≡ q = ap (λ (x : Totals). x.read) t in
          let c : r ≡ uses = cc in
          record { reference = omega arith; read = λ h. omega (arith, eqb-true q y.count eu) }
      total q r f ops eo true true false es et eu g = let z : ◌≡◌ {A = ℕ} 0 1 = cc in absurd (omega arith)
      total q r f [] eo true false u es et eu g =
          let t : totals (read_sum (ops_in y l)) (ref_sum (ops_in y l)) ≡ totals q r = cc in
          let a : ref_sum (ops_in y l) ≡ r = ap (λ (x : Totals). x.reference) t in
          let c : r ≡ uses = cc in
          let d : read_sum (ops_in y l) ≡ 0 = ap read_sum (sym eo) in
          record { reference = omega arith; read = λ h. omega arith }
      total q r f (x ∷ ops) eo true false u es et eu g = absurd (omega (arith, ltb-false 0 (suc (length ops)) et))
      total q r f ops eo false v u es et eu g =
          let t : totals (read_sum (ops_in y l)) (ref_sum (ops_in y l)) ≡ totals q r = cc in
          let a : ref_sum (ops_in y l) ≡ r = ap (λ (x : Totals). x.reference) t in
          let c : r ≡ uses = cc in
          record { reference = omega arith; read = λ h. absurd (omega (arith, ltb-false 0 y.count es)) }

      go : (w : Result Totals ℕ) → walk_of (ops_in y l) ≡ w → judged y.count (length (ops_in y l)) place w ≡ Ok uses → Used uses
      go (Ok t) f g = total t.read t.reference (good_totals (ops_in y l) 0 _ t.read t.reference f) (ops_in y l) refl (ltb 0 y.count) (ltb 0 (length (ops_in y l))) (eqb t.read y.count) refl refl refl g
      go (Err i) f g = let z : ◌≡◌ {A = ℕ} 0 1 = cc in absurd (omega arith)

pub record Covered (pos uses : ℕ) (e : Extent) : Type 0 where
  pub first : e.start.0 ≡ pos + 1
  pub past : e.end.0 ≡ pos + 1 + uses
  pub last : pos + uses ≤ 2147483646

pub good_span : (pos uses place : ℕ) (e : Extent) → span_of pos uses place ≡ Ok e → Covered pos uses e
unfolding span_of
good_span pos uses place e h = go (ltb 2147483646 (pos + uses)) refl h
  where
    go : (t : Bool) → ltb 2147483646 (pos + uses) ≡ t → cond t (Err (ReferenceEnd place)) (Ok (extent pos uses)) ≡ Ok e → Covered pos uses e
    go true f g = let z : ◌≡◌ {A = ℕ} 0 1 = cc in absurd (omega arith)
    go false f g =
        let s : extent pos uses ≡ e = cc in
        record {
          first = sym (ap (λ (x : Extent). x.start.0) s);
          past = sym (ap (λ (x : Extent). x.end.0) s);
          last = ltb-false 2147483646 (pos + uses) f;
        }
