-- Texts put one behind the other.
use Prim.Native.Nat.{ℕ, ◌+◌, ◌-◌, ◌<◌, ◌≤◌}
use mathlib.Core.Path.{◌≡◌, refl, sym, ap, ◌∙◌}
use mathlib.Core.List.{List, [], ◌∷◌, ◌++◌, append_assoc, append-nil}
use native.Mathlib.Numerals.{add-one}
use native.Mathlib.Omega.{arith}
use borrow.Rule.Slice.PartMut.{put_mid, drop_put}
use lib.ListN.{length, get_or, take, drop, length-append}
use lib.Seq.{take-suc, drop-drop, length-take-le}
use Rattle.std.proofs.Math.Seq.{take-append-add, take-append_seam}
use Rattle.io.specs.Digits.{last_digits, IsDigitCount}
use Rattle.refusal.specs.declared.Refusal.{Refusal}
use Rattle.refusal.specs.Table.{number_of, place_of}
use Rattle.stats.specs.declared.CorrectionStats.{CorrectionStats}
use Rattle.line_text.specs.Line.{decimal_from, spaced, all_spaced, done_text, already_text, refusal_text}
use Rattle.line_text.specs.Put.{Put}
use Rattle.line_text.proofs.DigitLaws.{fewest_digits}

-- ---- one text, copied whole
pub put_whole : (out text : List ℕ) (at : ℕ) → at + length text ≤ length out → Put out at text (put_mid at ((at + length text) - at) out text) (at + length text)
put_whole out text at h =
    let z : (at + length text) - at ≡ length text = omega arith in
    record {
      end = refl;
      bytes =
          ap (λ (k : ℕ). take (k + length text) (put_mid at ((at + length text) - at) out text)) (sym (length-take-le at out (omega arith)))
          ∙ take-append-add (take at out) _ (length text)
          ∙ ap (λ (x : List ℕ). take at out ++ x) (take-append_seam text _);
      rest = drop_put at (at + length text) out text (omega arith) h (sym z);
    }

-- ---- numbers, one by one
pub put_none : (out : List ℕ) (at : ℕ) → Put out at (all_spaced []) out at
unfolding all_spaced
put_none out at = record { end = omega arith; bytes = sym (append-nil (take at out)); rest = refl }

spaced_then : (ns : List ℕ) (n : ℕ) → all_spaced (ns ++ (n ∷ [])) ≡ all_spaced ns ++ spaced n
unfolding all_spaced
spaced_then [] n = append-nil (spaced n)
spaced_then (m ∷ ns) n = ap (λ (x : List ℕ). spaced m ++ x) (spaced_then ns n) ∙ sym (append_assoc (spaced m) (all_spaced ns) (spaced n))

pub spaced_step : (ns : List ℕ) (i : ℕ) → i < length ns → all_spaced (take i ns) ++ spaced (get_or ns i 0) ≡ all_spaced (take (i + 1) ns)
spaced_step ns i h = sym (ap (λ (k : ℕ). all_spaced (take k ns)) (add-one i) ∙ ap all_spaced (take-suc ns i 0 h) ∙ spaced_then (take i ns) (get_or ns i 0))

-- ---- one behind the other
pub put_then : {a t b u c : List ℕ} {i j k : ℕ} → Put a i t b j → Put b j u c k → Put a i (t ++ u) c k
put_then {a} {t} {b} {u} {c} {i} {j} {k} p q = record {
  end = omega (arith, p.end, q.end, length-append t u);
  bytes = q.bytes ∙ ap (λ (x : List ℕ). x ++ u) p.bytes ∙ append_assoc (take i a) t u;
  rest = q.rest ∙ rw q.end (sym (drop-drop (length u) j b) ∙ ap (drop (length u)) p.rest ∙ drop-drop (length u) j a);
}

-- ---- a number
pub put_number : (a b c : List ℕ) (i j r k n : ℕ) (text : List ℕ) → Put a i (32 ∷ []) b j → Put b j (take k text) c r → k ≤ 20 → IsDigitCount 10 1 n k → take k text ≡ last_digits 10 k n → Put a i (spaced n) c r
put_number a b c i j r k n text p q h f e =
    let d : take k text ≡ decimal_from 20 n = e ∙ fewest_digits 20 k n h f in
    let s : Put a i ((32 ∷ []) ++ take k text) c r = put_then p q in
    rw d at s

-- ---- a line's numbers, written out
join_two : (w a b t : List ℕ) → w ++ (a ++ (b ++ [])) ++ t ≡ w ++ a ++ b ++ t
join_two w a b t = simp (append_assoc, append-nil)

join_four : (a b c d : List ℕ) → a ++ (b ++ (c ++ (d ++ []))) ≡ a ++ b ++ c ++ d
join_four a b c d = simp (append_assoc, append-nil)

join_three : (w a b c d t : List ℕ) → w ++ (a ++ (b ++ (c ++ d))) ++ t ≡ w ++ a ++ b ++ c ++ d ++ t
join_three w a b c d t = simp append_assoc

counts_text : (g : CorrectionStats) → all_spaced (g.overlapping ∷ g.agreeing ∷ g.disagreeing ∷ g.corrected ∷ []) ≡ spaced g.overlapping ++ spaced g.agreeing ++ spaced g.disagreeing ++ spaced g.corrected
unfolding all_spaced
counts_text g = join_four (spaced g.overlapping) (spaced g.agreeing) (spaced g.disagreeing) (spaced g.corrected)

pub done_line : (records pairs overlapping : ℕ) (g : CorrectionStats)
    → (111 ∷ 107 ∷ []) ++ all_spaced (records ∷ pairs ∷ overlapping ∷ g.overlapping ∷ g.agreeing ∷ g.disagreeing ∷ g.corrected ∷ []) ++ (10 ∷ []) ≡ done_text records pairs overlapping g
unfolding all_spaced
done_line records pairs overlapping g =
    join_three (111 ∷ 107 ∷ []) (spaced records) (spaced pairs) (spaced overlapping) _ (10 ∷ [])
    ∙ ap (λ (x : List ℕ). (111 ∷ 107 ∷ []) ++ spaced records ++ spaced pairs ++ spaced overlapping ++ x ++ (10 ∷ [])) (counts_text g)

pub already_line : (records : ℕ) (g : CorrectionStats)
    → (100 ∷ 111 ∷ 110 ∷ 101 ∷ []) ++ all_spaced (records ∷ g.overlapping ∷ g.agreeing ∷ g.disagreeing ∷ g.corrected ∷ []) ++ (10 ∷ []) ≡ already_text records g
unfolding all_spaced
already_line records g =
    ap (λ (x : List ℕ). x ++ (10 ∷ [])) (sym (append_assoc (100 ∷ 111 ∷ 110 ∷ 101 ∷ []) (spaced records) _))
    ∙ ap (λ (x : List ℕ). (100 ∷ 111 ∷ 110 ∷ 101 ∷ []) ++ spaced records ++ x ++ (10 ∷ [])) (counts_text g)

pub refusal_line : (r : Refusal) (n at : ℕ) → n ≡ number_of r → at ≡ place_of r → (110 ∷ 111 ∷ []) ++ all_spaced (n ∷ at ∷ []) ++ (10 ∷ []) ≡ refusal_text r
unfolding all_spaced
refusal_line r n at e f = join_two (110 ∷ 111 ∷ []) (spaced n) (spaced at) (10 ∷ []) ∙ (λ i. (110 ∷ 111 ∷ []) ++ spaced (e i) ++ spaced (f i) ++ (10 ∷ []))
