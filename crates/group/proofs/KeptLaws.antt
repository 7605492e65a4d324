-- A corrected group is cut as the group that was given: sizes and headers stay.
use Rattle.std.specs.Prelude.{Ok}
use Prim.Native.Nat.{ℕ, suc, ◌+◌, ◌-◌, ◌<◌, ◌≤◌}
use mathlib.Core.Path.{◌≡◌, sym, ◌∙◌, ap}
use mathlib.Core.List.{List}
use mathlib.Core.Logic.{inl, inr, ⊎_elim}
use native.Mathlib.Omega.{arith}
use lib.ListN.{length, get_or, take}
use lib.Seq.{ext_get_or, get_or-take, length-take-le}
use Rattle.fields.specs.Number.{unsigned}
use Rattle.fields.proofs.Arith.{lt_or_le}
use Rattle.fields.proofs.NumberLaws.{le_same}
use Rattle.fields.proofs.CheckLaws.{good_sound}
use Rattle.fields.specs.Layout.{layout_of}
use Rattle.stats.specs.declared.CorrectionStats.{CorrectionStats}
use Rattle.strategy.specs.declared.Strategies.{Strategies}
use Rattle.pair_merge.specs.Promise.{Outside}
use Rattle.group_frames.specs.Part.{part}
use Rattle.group_frames.specs.Frame.{begin_of, start_of, end_of, record_of, frames_of}
use Rattle.group_frames.proofs.PartLaws.{length_part}
use Rattle.group_frames.proofs.PlaceLaws.{begin_mono, start_end, records_apart}
use Rattle.group_frames.proofs.FrameLaws.{to_framed}
use Rattle.group_frames.proofs.CleanLaws.{whole_clean, begin_alike, clean_alike, clean_whole}
use Rattle.group_mates.specs.Register.{pairs_of}
use Rattle.group_mates.proofs.MateLaws.{among_mates, mates_among}
use Rattle.group.specs.Promise.{Elsewhere, Accepted}
use Rattle.group.proofs.PromiseLaws.{Spot, in_first, in_second, in_none, locate, byte_in}
use Rattle.group.proofs.ByteLaws.{first_outside, second_outside}

-- ---- an accepted group
module _ (w : Strategies) (s : List ℕ) (g : CorrectionStats) (n p o : ℕ) (u : List ℕ) (h : CorrectionStats) (a : Accepted w s g n p o u h) where
  -- a byte before record k's start and behind the record before it is in no record
  between : (k x : ℕ) → begin_of s k ≤ x → x < start_of s k → (i : ℕ) → Elsewhere s i x
  unfolding start_of end_of
  between k x lo hi i =
      ⊎_elim (λ (l : i < k). inr (omega (arith, begin_mono s (suc i) k l)))
      (λ (m : k ≤ i). inl (omega (arith, begin_mono s k i m)))
      (lt_or_le i k)

  sizes_stay : (k : ℕ) → unsigned 4 u (begin_of s k) ≡ unsigned 4 s (begin_of s k)
  unfolding start_of
  sizes_stay k = le_same 4 u s (begin_of s k) (λ x lo hi. a.others x (λ i j m. (between k x lo hi i, between k x lo hi j)))

  -- a record that has a byte of record k is record k
  one_record : (i k x : ℕ) → start_of s i ≤ x → x < end_of s i → start_of s k ≤ x → x < end_of s k → i ≡ k
  one_record i k x b e b' e' =
      ⊎_elim (λ (l : i < k). absurd (omega (arith, records_apart s i k l)))
      (λ (m : k ≤ i). ⊎_elim (λ (l : k < i). absurd (omega (arith, records_apart s k i l))) (λ (m' : i ≤ k). omega arith) (lt_or_le k i))
      (lt_or_le i k)

  -- the 32 bytes of a header hold neither base nor quality
  in_header : (r : List ℕ) (x : ℕ) → x < 32 → Outside (layout_of r) x
  in_header r x l = inl (inl (omega arith))

  header_stays : (k x : ℕ) → start_of s k ≤ x → x < start_of s k + 32 → x < end_of s k → get_or u x 0 ≡ get_or s x 0
  header_stays k x b e f = go (locate s (pairs_of s n) x)
    where
      go : Spot s (pairs_of s n) x → get_or u x 0 ≡ get_or s x 0
      go (in_first i j t q r) =
          let z = one_record i k x q r b f in
          let y : x - start_of s i < 32 = omega (arith, ap (start_of s) z) in
          byte_in u (start_of s i) (end_of s i) x q r ∙ first_outside w s g n p o u h a i j (among_mates s n i j t) (x - start_of s i) (in_header (record_of s i) (x - start_of s i) y) ∙ sym (byte_in s (start_of s i) (end_of s i) x q r)
      go (in_second i j t q r) =
          let z = one_record j k x q r b f in
          let y : x - start_of s j < 32 = omega (arith, ap (start_of s) z) in
          byte_in u (start_of s j) (end_of s j) x q r ∙ second_outside w s g n p o u h a i j (among_mates s n i j t) (x - start_of s j) (in_header (record_of s j) (x - start_of s j) y) ∙ sym (byte_in s (start_of s j) (end_of s j) x q r)
      go (in_none f) = a.others x (λ i j m. f i j (mates_among s n i j m))

  headers_stay : (k : ℕ) → k < n → take 32 (part u (start_of s k) (end_of s k)) ≡ take 32 (record_of s k)
  unfolding start_of end_of begin_of
  headers_stay k l =
      let b = start_of s k in
      let e = end_of s k in
      let d = to_framed s (begin_of s k) k (begin_of s (suc k)) ((whole_clean s n a.framed).1.0 k l) in
      let i : e ≤ length s = d.inside in
      let f : 32 ≤ length (part s b e) = (good_sound (part s b e) k d.layout d.good).fixed in
      let lu : length (part u b e) ≡ e - b = length_part u b e (start_end s k) (omega (arith, a.size)) in
      let ls : length (part s b e) ≡ e - b = length_part s b e (start_end s k) i in
      let tu : length (take 32 (part u b e)) ≡ 32 = length-take-le 32 (part u b e) (omega arith) in
      let ts : length (take 32 (part s b e)) ≡ 32 = length-take-le 32 (part s b e) f in
      ext_get_or 0 (take 32 (part u b e)) (take 32 (part s b e)) (tu ∙ sym ts)
      (λ y m. let m' : y < 32 = omega arith in
      let x : b + y - b ≡ y = omega arith in
      get_or-take 32 (part u b e) y 0 m'
      ∙ (rw x at (sym (byte_in u b e (b + y) (omega arith) (omega arith)) ∙ header_stays k (b + y) (omega arith) (omega arith) (omega arith) ∙ byte_in s b e (b + y) (omega arith) (omega arith)))
      ∙ sym (get_or-take 32 (part s b e) y 0 m'))

  -- the frames of the corrected group are as many, and lie where they lay
  pub frames_stay : frames_of u ≡ Ok n
  frames_stay =
      let c = whole_clean s n a.framed in
      let fit : begin_of s n ≤ length u = omega (arith, c.1.1, a.size) in
      let sizes : (k : ℕ) → k < n → unsigned 4 u (begin_of s k) ≡ unsigned 4 s (begin_of s k) = λ k l. sizes_stay k in
      clean_whole u n (clean_alike s u n c.1.0 fit sizes headers_stay)
      (begin_alike s u n c.1.0 fit sizes headers_stay n (omega arith) ∙ c.1.1 ∙ sym a.size) c.0
