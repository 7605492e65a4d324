-- Frames without a fault: what they hold, what they depend on, and where a group of them is whole. Assumes nothing.
use Rattle.std.specs.Prelude.{Result, Ok, Err}
use Rattle.refusal.specs.declared.Refusal.{Refusal}
use Prim.Native.Nat.{ℕ, zero, suc, ◌+◌, ◌-◌, ◌<◌, ◌≤◌}
use mathlib.Core.Path.{◌≡◌, refl, sym, ◌∙◌, ap}
use mathlib.Core.Bool.{Bool, true, false, cond}
use mathlib.Core.List.{List}
use mathlib.Core.Logic.{⊎_elim}
use native.Mathlib.Omega.{arith}
use borrow.Author.Tests.{le-ltb, ltb-false}
use lib.Dec.{ltb}
use lib.ListN.{length, get_or, take, drop}
use lib.Seq.{ext_get_or, get_or-take, get_or-drop}
use Rattle.refusal.specs.declared.Refusal.TheVariants as Why
use Rattle.fields.specs.declared.Layout.{Layout}
use Rattle.fields.specs.Number.{unsigned}
use Rattle.fields.specs.Layout.{layout_of}
use Rattle.fields.specs.Check.{check_of}
use Rattle.fields.specs.Sound.{Sound}
use Rattle.fields.proofs.Arith.{lt_or_le}
use Rattle.fields.proofs.CheckLaws.{good_sound, same_check, le_take}
use Rattle.group_frames.specs.Part.{part}
use Rattle.group_frames.specs.Frame.{frame_end, begin_of, start_of, end_of, record_of, frame_of, on_frame, frames_from, frames_of}
use Rattle.group_frames.proofs.PartLaws.{length_part}
use Rattle.group_frames.proofs.PlaceLaws.{begin_mono, start_end, end_in_lem}
use Rattle.group_frames.proofs.FrameLaws.{to_framed, frames_none, frames_one}

-- the first n frames of s have no fault
abbrev pub Clean : List ℕ → ℕ → Type 0
Clean s n = (k : ℕ) → k < n → frame_of s (begin_of s k) k ≡ Ok (begin_of s (suc k))

-- ---- one frame
-- it ends where the next begins
pub to_next : (s : List ℕ) (k e : ℕ) → frame_of s (begin_of s k) k ≡ Ok e → frame_of s (begin_of s k) k ≡ Ok (begin_of s (suc k))
unfolding begin_of
to_next s k e h = h ∙ ap Ok (to_framed s (begin_of s k) k e h).end

-- a size within the bytes and a record that passes the check are enough
pub good_to : (s : List ℕ) (p k : ℕ) (y : Layout) → frame_end s p ≤ length s → check_of (part s (p + 4) (frame_end s p)) k ≡ Ok y → frame_of s p k ≡ Ok (frame_end s p)
unfolding frame_of
good_to s p k y h g = simp (le-ltb (length s) (p + 4) (omega arith), le-ltb (length s) (frame_end s p) h, g)

-- a frame without a fault has a record of 32 bytes at least, and so no zero size
pub to_size : (s : List ℕ) (p k e : ℕ) → frame_of s p k ≡ Ok e → (32 ≤ unsigned 4 s p) × (frame_end s p ≤ length s)
to_size s p k e h =
    let d = to_framed s p k e h in
    let o = good_sound (part s (p + 4) (frame_end s p)) k d.layout d.good in
    (omega (arith, o.fixed, length_part s (p + 4) (frame_end s p) (omega arith) d.inside), d.inside)

-- ---- the first n frames
-- they lie in s
pub clean_fit : (s : List ℕ) (n : ℕ) → Clean s n → begin_of s n ≤ length s
unfolding begin_of
clean_fit s zero c = omega arith
clean_fit s (suc n) c = (to_size s (begin_of s n) n (begin_of s (suc n)) (c n (omega arith))).1

-- each record is sound
pub clean_sound : (s : List ℕ) (n : ℕ) → Clean s n → (k : ℕ) → k < n → Sound (record_of s k) (layout_of (record_of s k))
unfolding start_of end_of begin_of
clean_sound s n c k h =
    let d = to_framed s (begin_of s k) k (begin_of s (suc k)) (c k h) in
    let o = good_sound (record_of s k) k d.layout d.good in
    rw o.layout at o

-- ---- u has the sizes and the headers of s
module _ (s u : List ℕ) (n : ℕ) (c : Clean s n) (room : begin_of s n ≤ length u)
    (sizes : (k : ℕ) → k < n → unsigned 4 u (begin_of s k) ≡ unsigned 4 s (begin_of s k))
    (headers : (k : ℕ) → k < n → take 32 (part u (start_of s k) (end_of s k)) ≡ take 32 (record_of s k)) where
  pub begin_alike : (k : ℕ) → k ≤ n → begin_of u k ≡ begin_of s k
  unfolding begin_of
  begin_alike zero h = refl
  begin_alike (suc k) h =
      ap (frame_end u) (begin_alike k (omega arith)) ∙ ap (λ (z : ℕ). begin_of s k + 4 + z) (sizes k (omega arith))

  frame_alike : (k : ℕ) → k < n → frame_of u (begin_of s k) k ≡ Ok (begin_of s (suc k))
  unfolding start_of end_of begin_of
  frame_alike k h =
      let p = begin_of s k in
      let d = to_framed s p k (begin_of s (suc k)) (c k h) in
      let z : frame_end u p ≡ frame_end s p = ap (λ (x : ℕ). p + 4 + x) (sizes k h) in
      let i : frame_end s p ≤ length u = omega (arith, begin_mono s (suc k) n h) in
      let l : length (part u (p + 4) (frame_end s p)) ≡ length (part s (p + 4) (frame_end s p)) =
      length_part u (p + 4) (frame_end s p) (omega arith) i ∙ sym (length_part s (p + 4) (frame_end s p) (omega arith) d.inside) in
      let g : check_of (part u (p + 4) (frame_end s p)) k ≡ Ok d.layout =
      same_check (part u (p + 4) (frame_end s p)) (part s (p + 4) (frame_end s p)) (headers k h) l k ∙ d.good in
      good_to u p k d.layout (omega (arith, z)) (ap (λ (x : ℕ). check_of (part u (p + 4) x) k) z ∙ g) ∙ ap Ok z

  pub clean_alike : Clean u n
  clean_alike k h =
      ap (λ (z : ℕ). frame_of u z k) (begin_alike k (omega arith)) ∙ frame_alike k h ∙ ap Ok (sym (begin_alike (suc k) (omega arith)))

-- ---- u begins as s does
-- the same front has the same parts
part_front : (s u : List ℕ) (m a e : ℕ) → e ≤ m → e ≤ length s → e ≤ length u → take m u ≡ take m s → a ≤ e → part u a e ≡ part s a e
part_front s u m a e h i j t o =
    let l : length (part u a e) ≡ e - a = length_part u a e o j in
    ext_get_or 0 (part u a e) (part s a e) (l ∙ sym (length_part s a e o i))
    (λ k b. let d : k < e - a = omega arith in
    let w : a + k < m = omega arith in
    get_or-take (e - a) (drop a u) k 0 d ∙ get_or-drop a u k 0 ∙ sym (get_or-take m u (a + k) 0 w) ∙ ap (λ (z : List ℕ). get_or z (a + k) 0) t
    ∙ get_or-take m s (a + k) 0 w ∙ sym (get_or-drop a s k 0) ∙ sym (get_or-take (e - a) (drop a s) k 0 d))

-- the same front has the same numbers
pub number_front : (s u : List ℕ) (w m at : ℕ) → at + w ≤ m → take m u ≡ take m s → unsigned w u at ≡ unsigned w s at
number_front s u w m at h t = sym (le_take w m u at h) ∙ ap (λ (z : List ℕ). unsigned w z at) t ∙ le_take w m s at h

module _ (s u : List ℕ) (n : ℕ) (c : Clean s n) (room : begin_of s n ≤ length u) (front : take (begin_of s n) u ≡ take (begin_of s n) s) where
  pub size_front : (k : ℕ) → k < n → unsigned 4 u (begin_of s k) ≡ unsigned 4 s (begin_of s k)
  unfolding begin_of
  size_front k h = number_front s u 4 (begin_of s n) (begin_of s k) (omega (arith, begin_mono s (suc k) n h)) front

  pub record_front : (k : ℕ) → k < n → part u (start_of s k) (end_of s k) ≡ record_of s k
  record_front k h =
      let i : end_of s k ≤ begin_of s n = end_in_lem s k n h in
      part_front s u (begin_of s n) (start_of s k) (end_of s k) i (omega (arith, clean_fit s n c)) (omega arith) front (start_end s k)

  header_front : (k : ℕ) → k < n → take 32 (part u (start_of s k) (end_of s k)) ≡ take 32 (record_of s k)
  header_front k h = ap (take 32) (record_front k h)

  pub begin_front : (k : ℕ) → k ≤ n → begin_of u k ≡ begin_of s k
  begin_front = begin_alike s u n c room size_front header_front

  pub clean_front : Clean u n
  clean_front = clean_alike s u n c room size_front header_front

-- ---- the frames of a loop's turns, from the k-th on, where m more may come
pub record Run (s : List ℕ) (m k n : ℕ) : Type 0 where
  pub from : k ≤ n
  pub to : n ≤ k + m
  pub frames : (j : ℕ) → k ≤ j → j < n → frame_of s (begin_of s j) j ≡ Ok (begin_of s (suc j))

pub run_none : (s : List ℕ) (m k n : ℕ) → k ≡ n → Run s m k n
run_none s m k n e = record { from = omega arith; to = omega arith; frames = λ j h l. absurd (omega arith) }

pub run_more : (s : List ℕ) (m k n e : ℕ) → frame_of s (begin_of s k) k ≡ Ok e → Run s m (suc k) n → Run s (suc m) k n
run_more s m k n e f r =
    record {
      from = omega arith;
      to = omega arith;
      frames = λ j h l. ⊎_elim
          (λ (b : k < j). r.frames j b l)
          (λ (b : j ≤ k). let q : j ≡ k = omega arith in rw q (to_next s k e f))
          (lt_or_le k j);
    }

-- ---- a group is whole: its frames have no fault and take all its bytes
whole_from : (s : List ℕ) (m k n : ℕ) → frames_from s m k ≡ Ok n → Run s m k n × (length s ≤ begin_of s n)
unfolding frames_from
whole_from s zero k n h = go (ltb (begin_of s k) (length s)) refl h
  where
    go : (t : Bool) → ltb (begin_of s k) (length s) ≡ t → cond t (Err Why.TooManyRecords) (Ok k) ≡ Ok n → Run s zero k n × (length s ≤ begin_of s n)
    go true e g = let z : ◌≡◌ {A = ℕ} 0 1 = cc in absurd (omega arith)
    go false e g =
        let q : k ≡ n = cc in
        (run_none s zero k n q, rw q at (ltb-false (begin_of s k) (length s) e))
whole_from s (suc m) k n h = go (whole_from s m (suc k) n) (ltb (begin_of s k) (length s)) (frame_of s (begin_of s k) k) refl refl h
  where
    go : (frames_from s m (suc k) ≡ Ok n → Run s m (suc k) n × (length s ≤ begin_of s n))
        → (t : Bool) (f : Result ℕ Refusal) → ltb (begin_of s k) (length s) ≡ t → frame_of s (begin_of s k) k ≡ f
        → cond t (on_frame f (frames_from s m (suc k))) (Ok k) ≡ Ok n → Run s (suc m) k n × (length s ≤ begin_of s n)
    go again true (Ok x) e d g = (run_more s m k n x d (again g).0, (again g).1)
    go again true (Err r) e d g = let z : ◌≡◌ {A = ℕ} 0 1 = cc in absurd (omega arith)
    go again false f e d g =
        let q : k ≡ n = cc in
        (run_none s (suc m) k n q, rw q at (ltb-false (begin_of s k) (length s) e))

pub whole_clean : (s : List ℕ) (n : ℕ) → frames_of s ≡ Ok n → (n ≤ 256) × (Clean s n × (begin_of s n ≡ length s))
whole_clean s n h =
    let w = whole_from s 256 0 n h in
    let c : Clean s n = λ k l. w.0.frames k (omega arith) l in
    (omega (arith, w.0.to), (c, omega (arith, w.1, clean_fit s n c)))

module _ (s : List ℕ) (n : ℕ) (c : Clean s n) (e : begin_of s n ≡ length s) where
  whole_all : (m k : ℕ) → k ≡ n → frames_from s m k ≡ Ok n
  whole_all m k q = let b : length s ≤ begin_of s k = rw q (omega arith) in frames_none s m k b ∙ ap Ok q

  whole_more : (m k : ℕ) → k ≤ n → n ≤ k + m → frames_from s m k ≡ Ok n
  whole_more zero k h l = whole_all zero k (omega arith)
  whole_more (suc m) k h l =
      ⊎_elim
      (λ (b : k < n). frames_one s m k (omega (arith, to_size s (begin_of s k) k (begin_of s (suc k)) (c k b)))
      ∙ ap (λ (z : Result ℕ Refusal). on_frame z (frames_from s m (suc k))) (c k b) ∙ whole_more m (suc k) b (omega arith))
      (λ (b : n ≤ k). whole_all (suc m) k (omega arith))
      (lt_or_le k n)

  pub clean_whole : n ≤ 256 → frames_of s ≡ Ok n
  clean_whole h = whole_more 256 0 (omega arith) (omega arith)
