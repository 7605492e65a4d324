-- What an end of the frames is, said without the loop: that it is found, that it is the only one, and what it depends on. Assumes nothing.
use Rattle.std.specs.Prelude.{Result, Ok, Err}
use Rattle.refusal.specs.declared.Refusal.{Refusal}
use Rattle.refusal.specs.declared.Refusal.TheVariants.{TrailerMissing}
use Prim.Native.Nat.{ℕ, zero, suc, ◌+◌, ◌<◌, ◌≤◌}
use mathlib.Core.Path.{◌≡◌, refl, sym, ◌∙◌, ap}
use mathlib.Core.Bool.{Bool, true, false, cond}
use mathlib.Core.List.{List, ◌++◌}
use mathlib.Core.Logic.{⊎_elim}
use native.Mathlib.Omega.{arith}
use borrow.Author.Tests.{lt-ltb, le-ltb, ltb-false, eq-eqb, ne_eqb, eqb-true}
use lib.Dec.{ltb, eqb}
use lib.ListN.{length, take, length-append}
use lib.Seq.{length-take-le, take-append-le, take-take}
use Rattle.refusal.specs.declared.Refusal.TheVariants as Why
use Rattle.fields.specs.Number.{unsigned}
use Rattle.fields.proofs.Arith.{lt_or_le}
use Rattle.fields.proofs.NumberLaws.{le_behind}
use Rattle.group_frames.specs.Part.{part}
use Rattle.group_frames.specs.Frame.{begin_of, start_of, end_of, record_of, frame_of, frames_of}
use Rattle.group_frames.specs.Table.{FrameTable}
use Rattle.filed_ending.specs.Ending.{zero_at, on_frame, ending_from, ending_of}
use Rattle.filed_ending.specs.Found.{FramesEnd}
use Rattle.group_frames.proofs.CleanLaws.{Clean, Run, run_none, run_more, to_size, clean_sound, begin_alike, clean_alike, number_front, size_front, record_front, begin_front, clean_front, whole_clean, clean_whole}

-- ---- four zero bytes
pub zero_here : (s : List ℕ) (p : ℕ) → p + 4 ≤ length s → unsigned 4 s p ≡ 0 → zero_at s p ≡ true
zero_here s p h e = simp (le-ltb (length s) (p + 4) h, eq-eqb (unsigned 4 s p) 0 e)

pub zero_left : (s : List ℕ) (p : ℕ) → zero_at s p ≡ true → (p + 4 ≤ length s) × (unsigned 4 s p ≡ 0)
zero_left s p h = go (ltb (length s) (p + 4)) refl h
  where
    go : (t : Bool) → ltb (length s) (p + 4) ≡ t → cond t false (eqb (unsigned 4 s p) 0) ≡ true → (p + 4 ≤ length s) × (unsigned 4 s p ≡ 0)
    go true e g = let z : ◌≡◌ {A = ℕ} 0 1 = cc in absurd (omega arith)
    go false e g = (ltb-false (length s) (p + 4) e, eqb-true (unsigned 4 s p) 0 g)

-- none where a frame without a fault stands
pub zero_not : (s : List ℕ) (p k e : ℕ) → frame_of s p k ≡ Ok e → zero_at s p ≡ false
zero_not s p k e h =
    let d = to_size s p k e h in
    simp (le-ltb (length s) (p + 4) (omega arith), ne_eqb (unsigned 4 s p) 0 (λ z. omega arith))

-- ---- what is found at frame k
module _ (s : List ℕ) (k : ℕ) where
  pub end_missing : (m : ℕ) → length s ≤ begin_of s k → ending_from s m k ≡ Err TrailerMissing
  unfolding ending_from
  end_missing zero h = simp (le-ltb (begin_of s k) (length s) h)
  end_missing (suc m) h = simp (le-ltb (begin_of s k) (length s) h)

  pub end_zero : (m : ℕ) → zero_at s (begin_of s k) ≡ true → ending_from s m k ≡ Ok k
  unfolding ending_from
  end_zero zero h = simp (lt-ltb (begin_of s k) (length s) (omega (arith, zero_left s (begin_of s k) h)), h)
  end_zero (suc m) h = simp (lt-ltb (begin_of s k) (length s) (omega (arith, zero_left s (begin_of s k) h)), h)

  module _ (more : begin_of s k < length s) (size : zero_at s (begin_of s k) ≡ false) where
    pub end_many : ending_from s 0 k ≡ Err Why.TooManyRecords
    unfolding ending_from
    end_many = simp (lt-ltb (begin_of s k) (length s) more, size)

    pub end_frame : (m : ℕ) → ending_from s (suc m) k ≡ on_frame (frame_of s (begin_of s k) k) (ending_from s m (suc k))
    unfolding ending_from
    end_frame m = simp (lt-ltb (begin_of s k) (length s) more, size)

-- ---- what an end is, said without a loop
pub record Ends (s : List ℕ) (n : ℕ) : Type 0 where
  pub few : n ≤ 256
  pub frames : (k : ℕ) → k < n → frame_of s (begin_of s k) k ≡ Ok (begin_of s (suc k))
  pub zero : zero_at s (begin_of s n) ≡ true

ends_from : (s : List ℕ) (m k n : ℕ) → ending_from s m k ≡ Ok n → Run s m k n × (zero_at s (begin_of s n) ≡ true)
unfolding ending_from
ends_from s zero k n h = go (ltb (begin_of s k) (length s)) (zero_at s (begin_of s k)) refl h
  where
    go : (t u : Bool) → zero_at s (begin_of s k) ≡ u → cond t (cond u (Ok k) (Err Why.TooManyRecords)) (Err TrailerMissing) ≡ Ok n → Run s zero k n × (zero_at s (begin_of s n) ≡ true)
    go true true e g = let q : k ≡ n = cc in (run_none s zero k n q, rw q at e)
    go true false e g = let z : ◌≡◌ {A = ℕ} 0 1 = cc in absurd (omega arith)
    go false u e g = let z : ◌≡◌ {A = ℕ} 0 1 = cc in absurd (omega arith)
ends_from s (suc m) k n h = go (ends_from s m (suc k) n) (ltb (begin_of s k) (length s)) (zero_at s (begin_of s k)) (frame_of s (begin_of s k) k) refl refl h
  where
    go : (ending_from s m (suc k) ≡ Ok n → Run s m (suc k) n × (zero_at s (begin_of s n) ≡ true))
        → (t u : Bool) (f : Result ℕ Refusal) → zero_at s (begin_of s k) ≡ u → frame_of s (begin_of s k) k ≡ f
        → cond t (cond u (Ok k) (on_frame f (ending_from s m (suc k)))) (Err TrailerMissing) ≡ Ok n → Run s (suc m) k n × (zero_at s (begin_of s n) ≡ true)
    go again true true f e d g = let q : k ≡ n = cc in (run_none s (suc m) k n q, rw q at e)
    go again true false (Ok x) e d g = (run_more s m k n x d (again g).0, (again g).1)
    go again true false (Err r) e d g = let z : ◌≡◌ {A = ℕ} 0 1 = cc in absurd (omega arith)
    go again false u f e d g = let z : ◌≡◌ {A = ℕ} 0 1 = cc in absurd (omega arith)

-- what is found is one
pub ends_of : (s : List ℕ) (n : ℕ) → ending_of s ≡ Ok n → Ends s n
ends_of s n h =
    let w = ends_from s 256 0 n h in
    record { few = omega (arith, w.0.to); frames = λ k l. w.0.frames k (omega arith) l; zero = w.1 }

ending_more : (s : List ℕ) (n : ℕ) → Ends s n → (m k : ℕ) → k ≤ n → n ≤ k + m → ending_from s m k ≡ Ok n
ending_more s n e zero k h l = let q : n ≡ k = omega arith in rw q (end_zero s k 0 (rw q at e.zero))
ending_more s n e (suc m) k h l =
    ⊎_elim
    (λ (b : k < n). let f = e.frames k b in
    let d = to_size s (begin_of s k) k (begin_of s (suc k)) f in
    end_frame s k (omega arith) (zero_not s (begin_of s k) k (begin_of s (suc k)) f) m
    ∙ ap (λ (z : Result ℕ Refusal). on_frame z (ending_from s m (suc k))) f ∙ ending_more s n e m (suc k) b (omega arith))
    (λ (b : n ≤ k). let q : n ≡ k = omega arith in rw q (end_zero s k (suc m) (rw q at e.zero)))
    (lt_or_le k n)

-- and is found
pub ending_at : (s : List ℕ) (n : ℕ) → Ends s n → ending_of s ≡ Ok n
ending_at s n e = ending_more s n e 256 0 (omega arith) (omega (arith, e.few))

-- its four zero bytes lie in s
pub ends_left : (s : List ℕ) (n : ℕ) → Ends s n → begin_of s n + 4 ≤ length s
ends_left s n e = (zero_left s (begin_of s n) e.zero).0

-- there is one at most
pub one_end : (s : List ℕ) (n m : ℕ) → Ends s n → Ends s m → n ≡ m
one_end s n m e f = let z : Ok n ≡ Ok m = sym (ending_at s n e) ∙ ending_at s m f in cc

-- ---- a list u whose sizes and headers are those of s: it ends alike
module _ (s u : List ℕ) (n : ℕ) (e : Ends s n) (room : begin_of s n + 4 ≤ length u) where
  pub ends_alike : ((k : ℕ) → k < n → unsigned 4 u (begin_of s k) ≡ unsigned 4 s (begin_of s k))
      → ((k : ℕ) → k < n → take 32 (part u (start_of s k) (end_of s k)) ≡ take 32 (record_of s k))
      → unsigned 4 u (begin_of s n) ≡ unsigned 4 s (begin_of s n)
      → Ends u n × (begin_of u n ≡ begin_of s n)
  ends_alike sizes headers size =
      let i : begin_of s n ≤ length u = omega arith in
      let b : begin_of u n ≡ begin_of s n = begin_alike s u n e.frames i sizes headers n (omega arith) in (
        record {
          few = e.few;
          frames = clean_alike s u n e.frames i sizes headers;
          zero = rw b (zero_here u (begin_of s n) room (size ∙ (zero_left s (begin_of s n) e.zero).1));
        },
        b,
      )

  -- and so does one that begins as s does
  pub ends_front : take (begin_of s n + 4) u ≡ take (begin_of s n + 4) s → Ends u n × (begin_of u n ≡ begin_of s n)
  ends_front t =
      let i : begin_of s n ≤ length u = omega arith in
      let j : begin_of s n ≤ begin_of s n + 4 = omega arith in
      let f : take (begin_of s n) u ≡ take (begin_of s n) s =
      sym (take-take (begin_of s n) (begin_of s n + 4) u j) ∙ ap (take (begin_of s n)) t ∙ take-take (begin_of s n) (begin_of s n + 4) s j in
      ends_alike (size_front s u n e.frames i f) (λ k h. ap (take 32) (record_front s u n e.frames i f k h))
      (number_front s u 4 (begin_of s n + 4) (begin_of s n) (omega arith) t)

-- ---- frames that are whole, with four zero bytes behind them, end there
pub whole_ends : (s t : List ℕ) (n : ℕ) → frames_of s ≡ Ok n → 4 ≤ length t → unsigned 4 t 0 ≡ 0 → Ends (s ++ t) n × (begin_of (s ++ t) n ≡ length s)
whole_ends s t n h l z =
    let w = whole_clean s n h in
    let o : length (s ++ t) ≡ length s + length t = length-append s t in
    let i : begin_of s n ≤ length (s ++ t) = omega (arith, w.1.1) in
    let f : take (begin_of s n) (s ++ t) ≡ take (begin_of s n) s = take-append-le (begin_of s n) s t (omega (arith, w.1.1)) in
    let b : begin_of (s ++ t) n ≡ length s = begin_front s (s ++ t) n w.1.0 i f n (omega arith) ∙ w.1.1 in
    let p : length s + 0 ≡ length s = omega arith in (
      record {
        few = w.0;
        frames = clean_front s (s ++ t) n w.1.0 i f;
        zero = rw b (zero_here (s ++ t) (length s) (omega arith) (rw p at (le_behind 4 s t 0) ∙ z));
      },
      b,
    )

-- ---- the frames before an end, alone
abbrev pub before : List ℕ → ℕ → List ℕ
before s n = take (begin_of s n) s

module _ (s : List ℕ) (n : ℕ) (e : Ends s n) where
  pub before_size : length (before s n) ≡ begin_of s n
  before_size = length-take-le (begin_of s n) s (omega (arith, ends_left s n e))

  pub before_begin : (k : ℕ) → k ≤ n → begin_of (before s n) k ≡ begin_of s k
  before_begin = begin_front s (before s n) n e.frames (omega (arith, before_size)) (take-take (begin_of s n) (begin_of s n) s (omega arith))

  before_clean : Clean (before s n) n
  before_clean = clean_front s (before s n) n e.frames (omega (arith, before_size)) (take-take (begin_of s n) (begin_of s n) s (omega arith))

  -- they are whole
  pub before_whole : frames_of (before s n) ≡ Ok n
  before_whole = clean_whole (before s n) n before_clean (before_begin n (omega arith) ∙ sym before_size) e.few

  -- and the table of s up to there is theirs
  pub before_table : (begins : List ℕ) → FrameTable s begins n → FramesEnd s begins n
  before_table begins t =
      record {
        placed = record {
          few = t.few;
          wide = t.wide;
          places = λ k h. t.places k h ∙ sym (before_begin k (omega arith));
          fit = omega (arith, before_begin n (omega arith), before_size);
          sound = clean_sound (before s n) n before_clean;
        };
        begin = before_begin n (omega arith);
        left = ends_left s n e;
        whole = before_whole;
      }
