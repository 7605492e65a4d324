-- One frame, and one turn of the loop that cuts a group into frames.
use Rattle.std.specs.Prelude.{Result, Ok, Err}
use Prim.Native.Nat.{ℕ, zero, suc, ◌+◌, ◌-◌, ◌<◌, ◌≤◌}
use mathlib.Core.Path.{◌≡◌, refl, sym, ◌∙◌, ap, ap₂}
use mathlib.Core.Bool.{Bool, true, false, cond}
use mathlib.Core.List.{List}
use native.Mathlib.Numerals.{add-one}
use native.Mathlib.Nat.{lt_irrefl}
use native.Mathlib.Omega.{arith}
use borrow.Author.Tests.{lt-ltb, le-ltb, ltb-false}
use borrow.Author.Count.{below_more, below_none}
use lib.Dec.{ltb}
use lib.ListN.{length, set, length-set}
use lib.Seq.{get_or-set_same, get_or-set_other}
use Rattle.refusal.specs.declared.Refusal.{Refusal}
use Rattle.refusal.specs.declared.Refusal.TheVariants as Why
use Rattle.fields.specs.declared.Layout.{Layout}
use Rattle.fields.specs.Number.{unsigned}
use Rattle.fields.specs.Check.{check_of}
use Rattle.fields.proofs.CheckLaws.{good_sound}
use Rattle.group_frames.specs.Part.{part}
use Rattle.group_frames.specs.Frame.{frame_end, begin_of, start_of, end_of, record_of, on_checked, frame_of, on_frame, frames_from, frames_of}
use Rattle.group_frames.specs.Table.{FrameTable}

-- ---- one frame, by what the code finds
module _ (s : List ℕ) (p k : ℕ) (inside : p ≤ length s) where
  pub frame_short : length s - p < 4 → Err (Why.Frame k) ≡ frame_of s p k
  unfolding frame_of
  frame_short h = simp (lt-ltb (length s) (p + 4) (omega arith))

  module _ (four : 4 ≤ length s - p) (size : ℕ) (e : size ≡ unsigned 4 s p) where
    pub frame_past : length s - p - 4 < size → Err (Why.Frame k) ≡ frame_of s p k
    unfolding frame_of
    frame_past h = simp (le-ltb (length s) (p + 4) (omega arith), lt-ltb (length s) (frame_end s p) (omega arith))

    pub frame_checked : size ≤ length s - p - 4 → (c c' : Result Layout Refusal) → c ≡ check_of (part s (p + 4) (p + 4 + size)) k → c ≡ c' → on_checked c' (p + 4 + size) ≡ frame_of s p k
    unfolding frame_of
    frame_checked h c c' f g =
        let f' : c ≡ check_of (part s (p + 4) (frame_end s p)) k = f ∙ ap (λ (z : ℕ). check_of (part s (p + 4) (p + 4 + z)) k) e in
        ap₂ on_checked (sym g ∙ f') (ap (λ (z : ℕ). p + 4 + z) e) ∙ simp (le-ltb (length s) (p + 4) (omega arith), le-ltb (length s) (frame_end s p) (omega arith))

-- ---- what a frame without a fault shows
to_good : (c : Result Layout Refusal) (x e : ℕ) → on_checked c x ≡ Ok e → (y : Layout) × ((c ≡ Ok y) × (x ≡ e))
to_good (Ok y) x e h = let z : x ≡ e = cc in (y, (refl, z))
to_good (Err r) x e h = let z : ◌≡◌ {A = ℕ} 0 1 = cc in absurd (omega arith)

refused_to : (r : Refusal) (e : ℕ) → Err r ≡ Ok e → ⊥
refused_to r e h = let z : ◌≡◌ {A = ℕ} 0 1 = cc in omega arith

pub record Framed (s : List ℕ) (p k e : ℕ) : Type 0 where
  pub end : e ≡ frame_end s p
  pub inside : frame_end s p ≤ length s
  pub layout : Layout
  pub good : check_of (part s (p + 4) (frame_end s p)) k ≡ Ok layout

pub to_framed : (s : List ℕ) (p k e : ℕ) → frame_of s p k ≡ Ok e → Framed s p k e
unfolding frame_of
to_framed s p k e h = go (ltb (length s) (p + 4)) (ltb (length s) (frame_end s p)) refl h
  where
    go : (t u : Bool) → ltb (length s) (frame_end s p) ≡ u
        → cond t (Err (Why.Frame k)) (cond u (Err (Why.Frame k)) (on_checked (check_of (part s (p + 4) (frame_end s p)) k) (frame_end s p))) ≡ Ok e → Framed s p k e
    go true u f g = absurd (refused_to (Why.Frame k) e g)
    go false true f g = absurd (refused_to (Why.Frame k) e g)
    go false false f g =
        let c = to_good (check_of (part s (p + 4) (frame_end s p)) k) (frame_end s p) e g in
        record { end = sym c.1.1; inside = ltb-false (length s) (frame_end s p) f; layout = c.0; good = c.1.0 }

-- ---- the loop has passed k frames, and p is where the next begins
pub record Going (s begins : List ℕ) (k p : ℕ) : Type 0 where
  pub here : p ≡ begin_of s k
  pub left : frames_from s (256 - k) k ≡ frames_of s
  pub placed : FrameTable s begins k

pub placed_start : (s begins : List ℕ) → 257 ≤ length begins → FrameTable s (set begins 0 0) 0
unfolding begin_of
placed_start s begins h = record {
  few = omega arith;
  wide = rw length-set h;
  places = λ k l. let e : k ≡ 0 = omega arith in rw e (get_or-set_same begins 0 0 0 (omega arith));
  fit = omega arith;
  sound = below_none _;
}

pub going_start : (s begins : List ℕ) → 257 ≤ length begins → Going s (set begins 0 0) 0 0
unfolding begin_of
going_start s begins h = record { here = refl; left = refl; placed = placed_start s begins h }

-- one frame more in the table: it ends where the next begins
pub placed_next : (s begins : List ℕ) (k : ℕ) → FrameTable s begins k → k < 256 → (q : ℕ) → frame_of s (begin_of s k) k ≡ Ok q
    → (q ≡ begin_of s (k + 1)) × FrameTable s (set begins (k + 1) q) (k + 1)
unfolding start_of end_of begin_of
placed_next s begins k t room q h =
    let d = to_framed s (begin_of s k) k q h in
    let n : q ≡ begin_of s (k + 1) = d.end ∙ ap (begin_of s) (sym (add-one k)) in
    let o = good_sound (record_of s k) k d.layout d.good in (
      n,
      record {
        few = omega arith;
        wide = rw length-set t.wide;
        places = below_more _ (k + 1)
            (λ j l. get_or-set_other begins (k + 1) j q 0 (λ w. lt_irrefl (k + 1) (rw w at l)) ∙ t.places j l)
            (get_or-set_same begins (k + 1) q 0 (omega (arith, t.wide)) ∙ n);
        fit = omega (arith, n, d.end, d.inside);
        sound = below_more _ k t.sound (rw o.layout at o);
      },
    )

pub frames_none : (s : List ℕ) (m k : ℕ) → length s ≤ begin_of s k → frames_from s m k ≡ Ok k
unfolding frames_from
frames_none s zero k h = simp (le-ltb (begin_of s k) (length s) h)
frames_none s (suc m) k h = simp (le-ltb (begin_of s k) (length s) h)

pub frames_many : (s : List ℕ) (k : ℕ) → begin_of s k < length s → frames_from s 0 k ≡ Err Why.TooManyRecords
unfolding frames_from
frames_many s k h = simp (lt-ltb (begin_of s k) (length s) h)

pub frames_one : (s : List ℕ) (m k : ℕ) → begin_of s k < length s → frames_from s (suc m) k ≡ on_frame (frame_of s (begin_of s k) k) (frames_from s m (suc k))
unfolding frames_from
frames_one s m k h = simp (lt-ltb (begin_of s k) (length s) h)

module _ (s begins : List ℕ) (k p : ℕ) (g : Going s begins k p) where
  pub going_in : p ≤ length s
  going_in = omega (arith, g.here, g.placed.fit)

  pub said_none : length s ≤ p → Ok k ≡ frames_of s
  said_none h = sym (frames_none s (256 - k) k (omega (arith, g.here))) ∙ g.left

  module _ (room : k < 256) (more : p < length s) (f f' : Result ℕ Refusal) (e : f ≡ frame_of s p k) (e' : f ≡ f') where
    abbrev m : ℕ
    m = 256 - (k + 1)

    turn : on_frame f' (frames_from s m (suc k)) ≡ frames_of s
    turn =
        let u : suc m ≡ 256 - k = omega arith in
        ap (λ (z : Result ℕ Refusal). on_frame z (frames_from s m (suc k))) (sym e' ∙ e ∙ ap (λ (z : ℕ). frame_of s z k) g.here)
        ∙ sym (frames_one s m k (omega (arith, g.here))) ∙ ap (λ (z : ℕ). frames_from s z k) u ∙ g.left

    pub said_refused : (r : Refusal) → f' ≡ Err r → Err r ≡ frames_of s
    said_refused r h = ap (λ (z : Result ℕ Refusal). on_frame z (frames_from s m (suc k))) (sym h) ∙ turn

    pub going_next : (q : ℕ) → f' ≡ Ok q → Going s (set begins (k + 1) q) (k + 1) q
    going_next q h =
        let d = placed_next s begins k g.placed room q (sym (ap (λ (z : ℕ). frame_of s z k) g.here) ∙ sym e ∙ e' ∙ h) in
        record {
          here = d.0;
          left = ap (frames_from s m) (add-one k) ∙ ap (λ (z : Result ℕ Refusal). on_frame z (frames_from s m (suc k))) (sym h) ∙ turn;
          placed = d.1;
        }

  module _ (full : 256 ≤ k) where
    pub said_many : p < length s → Err Why.TooManyRecords ≡ frames_of s
    said_many l =
        let z : 256 - k ≡ 0 = omega arith in
        sym (frames_many s k (omega (arith, g.here))) ∙ ap (λ (w : ℕ). frames_from s w k) (sym z) ∙ g.left

    pub said_all : length s ≤ p → (Ok 256 ≡ frames_of s) × FrameTable s begins 256
    said_all l =
        let e : k ≡ 256 = omega (arith, g.placed.few) in
        (ap Ok (sym e) ∙ said_none l, rw e at g.placed)
