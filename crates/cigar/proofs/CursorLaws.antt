-- Laws of a cursor's steps.
use Prim.Native.Nat.{ℕ, zero, suc, ◌+◌, ◌-◌, ◌*◌, ◌≤◌, ◌<◌}
use mathlib.Core.Path.{◌≡◌, refl, sym, ap, ap₂, ◌∙◌}
use mathlib.Core.List.{List, [], ◌∷◌}
use mathlib.Core.Option.{none, some}
use mathlib.Core.Logic.{⊎_elim}
use native.Mathlib.Omega.{arith}
use lib.ListN.{length, take, drop}
use lib.Seq.{get_or-take, length-take-le}
use Rattle.cigar.specs.Operation.{Both, kind, len, read_len, ref_len, read_sum, ref_sum, ops_of}
use Rattle.cigar.specs.declared.Cursor.{Cursor}
use Rattle.fields.specs.Number.{unsigned}
use Rattle.cigar.specs.Found.{run_at, off_at}
use Rattle.cigar.specs.Passing.{cursor, rest_ops, cur_off, advanced, SameBases, Stands}
use Rattle.fields.proofs.Arith.{lt_or_le}
use Rattle.cigar.proofs.PlaceLaws.{run_below, run_in, run_past, run_zero, run_join, op_none, off_below, ops_step}

off_at_lem : (ops : List ℕ) (p : ℕ) {q q' r r' : ℕ} → q ≡ q' → r ≡ r' → off_at ops q r p ≡ off_at ops q' r' p
off_at_lem ops p e f = ap₂ (λ (q r : ℕ). off_at ops q r p) e f

-- nothing at a position that the cursor has passed
pub cur_below : (cig : List ℕ) (c : Cursor) (p : ℕ) → p < c.position.0 → cur_off cig c p ≡ none
unfolding cur_off
cur_below cig c p h = run_below c.left c.offset.0 c.position.0 p _ h ∙ off_below (rest_ops cig c) _ _ p (omega arith)

-- the run at hand
pub cur_in : (cig : List ℕ) (c : Cursor) (t : ℕ) → t < c.left → cur_off cig c (c.position.0 + t) ≡ some (c.offset.0 + t)
unfolding cur_off
cur_in cig c t h = run_in c.left c.offset.0 c.position.0 (c.position.0 + t) _ (omega arith) (omega arith) ∙ ap some (omega arith)

-- nothing at hand and nothing left
pub cur_done : (cig : List ℕ) (c : Cursor) (p : ℕ) → c.left ≡ 0 → rest_ops cig c ≡ [] → cur_off cig c p ≡ none
unfolding cur_off off_at
cur_done cig c p e f = rw (e, f) (run_zero c.offset.0 c.position.0 p none)

-- d bases passed: positions past them are as before
pub advance_same : (cig : List ℕ) (c : Cursor) (d p : ℕ) → d ≤ c.left → c.position.0 + d ≤ p → cur_off cig (advanced c d) p ≡ cur_off cig c p
unfolding cur_off
advance_same cig c d p h k =
    let rest = off_at (rest_ops cig c) (c.offset.0 + c.left) (c.position.0 + c.left) p in
    let rest' = off_at (rest_ops cig c) (c.offset.0 + d + (c.left - d)) (c.position.0 + d + (c.left - d)) p in
    ⊎_elim
    (λ l. run_in (c.left - d) (c.offset.0 + d) (c.position.0 + d) p rest' k (omega arith)
    ∙ (ap some (omega arith) ∙ sym (run_in c.left c.offset.0 c.position.0 p rest (omega arith) l)))
    (λ l. run_past (c.left - d) (c.offset.0 + d) (c.position.0 + d) p rest' (omega arith)
    ∙ (off_at_lem (rest_ops cig c) p (omega arith) (omega arith) ∙ sym (run_past c.left c.offset.0 c.position.0 p rest l)))
    (lt_or_le p (c.position.0 + c.left))

pub kept_refl : (cig : List ℕ) (c : Cursor) → SameBases cig c c
kept_refl cig c = record { same = λ p. refl; reads = refl; refs = refl; up = omega arith; on = omega arith }

pub kept_trans : (cig : List ℕ) (c d e : Cursor) → SameBases cig c d → SameBases cig d e → SameBases cig c e
kept_trans cig c d e h k =
    record { same = λ p. k.same p ∙ h.same p; reads = k.reads ∙ h.reads; refs = k.refs ∙ h.refs; up = omega (arith, h.up, k.up); on = omega (arith, h.on, k.on) }

-- the operation at hand taken: the cursor stands for the same bases
module _ (cig : List ℕ) (c : Cursor) (op : ℕ) (here : op ≡ unsigned 4 cig c.at) (whole : c.at + 4 ≤ length cig) where
  abbrev tail : List ℕ
  tail = ops_of (drop (c.at + 4) cig)

  split : rest_ops cig c ≡ op ∷ tail
  split = ops_step cig c.at whole ∙ ap (λ (w : ℕ). w ∷ tail) (sym here)

  -- an aligned one is joined to the run
  pub join_kept : kind op ≡ Both → SameBases cig c (cursor (c.at + 4) c.offset.0 c.position.0 (c.left + len op))
  unfolding cur_off off_at read_sum ref_sum
  join_kept b =
      record {
        same = λ p. rw (split, b)
            (ap (run_at (c.left + len op) c.offset.0 c.position.0 p) (off_at_lem tail p (omega arith) (omega arith))
            ∙ run_join c.left (len op) c.offset.0 c.position.0 p _);
        reads = rw (split, b) (omega arith);
        refs = rw (split, b) (omega arith);
        up = omega arith;
        on = omega arith;
      }

  -- any other one is passed where the run is empty
  pub skip_kept : (kind op ≡ Both → ⊥) → c.left ≡ 0
      → SameBases cig c (cursor (c.at + 4) (c.offset.0 + read_len op) (c.position.0 + ref_len op) c.left)
  unfolding cur_off off_at read_sum ref_sum
  skip_kept b e =
      record {
        same = λ p. rw (split, e)
            (run_zero _ _ p _ ∙ (off_at_lem tail p (omega arith) (omega arith)
            ∙ sym (run_zero c.offset.0 c.position.0 p _ ∙ op_none (kind op) (len op) _ _ p _ b)));
        reads = rw split (omega arith);
        refs = rw split (omega arith);
        up = omega arith;
        on = omega arith;
      }

-- a number that lies before byte e
pub le_take : (w : ℕ) (l : List ℕ) (e at : ℕ) → at + w ≤ e → unsigned w (take e l) at ≡ unsigned w l at
unfolding unsigned
le_take zero l e at h = refl
le_take (suc w) l e at h =
    let k : at < e = omega arith in
    ap₂ (λ (x y : ℕ). x + 256 * y) (get_or-take e l at 0 k) (le_take w l e (at + 1) (omega arith))

pub kept_stands : (cig : List ℕ) (c d : Cursor) → Stands cig c → SameBases cig c d → d.at ≤ length cig → Stands cig d
kept_stands cig c d s k h = record { within = h; reads = omega (arith, s.reads, k.reads); refs = omega (arith, s.refs, k.refs) }

-- what a turn of `settle` keeps: `cur` is at most at `end`, and stands for the same bases as `c`
abbrev pub Turned : List ℕ → ℕ → Cursor → Cursor → Type 0
Turned s end c cur = (cur.at ≤ end) × SameBases (take end s) c cur

module _ (s : List ℕ) (end : ℕ) (fits : end ≤ length s) (c cur : Cursor) (h : Turned s end c cur) where
  pub turned_stands : Stands (take end s) c → Stands (take end s) cur
  turned_stands k = kept_stands (take end s) c cur k h.1 (omega (arith, length-take-le end s fits))

  module _ (op : ℕ) (is : op ≡ unsigned 4 s cur.at) (whole : cur.at + 4 ≤ end) where
    here : op ≡ unsigned 4 (take end s) cur.at
    here = is ∙ sym (le_take 4 s end cur.at whole)

    inside : cur.at + 4 ≤ length (take end s)
    inside = omega (arith, length-take-le end s fits)

    pub turn_join : kind op ≡ Both → Turned s end c (cursor (cur.at + 4) cur.offset.0 cur.position.0 (cur.left + len op))
    turn_join b = (whole, kept_trans (take end s) c cur _ h.1 (join_kept (take end s) cur op here inside b))

    pub turn_skip : (kind op ≡ Both → ⊥) → cur.left ≡ 0
        → Turned s end c (cursor (cur.at + 4) (cur.offset.0 + read_len op) (cur.position.0 + ref_len op) cur.left)
    turn_skip b e = (whole, kept_trans (take end s) c cur _ h.1 (skip_kept (take end s) cur op here inside b e))

pub advanced_stands : (cig : List ℕ) (c : Cursor) (d : ℕ) → Stands cig c → d ≤ c.left → Stands cig (advanced c d)
advanced_stands cig c d s h = record { within = s.within; reads = omega (arith, s.reads); refs = omega (arith, s.refs) }
