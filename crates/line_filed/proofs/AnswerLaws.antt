-- The whole answer, by the outcomes of the call.
use Prim.Native.Nat.{ℕ, ◌+◌, ◌<◌, ◌≤◌}
use mathlib.Core.Path.{◌≡◌, refl, sym, ap, ◌∙◌}
use mathlib.Core.List.{List, [], ◌++◌}
use native.Mathlib.Omega.{arith}
use borrow.Author.Tests.{lt-ltb, le-ltb}
use lib.ListN.{length, take, drop}
use lib.Seq.{take_all, take-append-le, drop-append-add}
use Rattle.refusal.specs.declared.Refusal.TheVariants.{Input}
use Rattle.stats.specs.declared.CorrectionStats.{CorrectionStats}
use Rattle.stats.specs.Counts.{zeroed}
use Rattle.filed.specs.declared.Filed.{Filed}
use Rattle.filed.specs.declared.FiledAnswer.{FiledAnswer}
use Rattle.filed.specs.declared.FiledAnswer.TheVariants.{Corrected, AlreadyDone, Refused}
use Rattle.filed.specs.Filed.{Ended, ended, filed_of}
use Rattle.filed.proofs.RoomLaws.{Outcome, wrote, known, refused, outcome}
use Rattle.line_text.specs.Line.{refusal_text}
use Rattle.line_text.specs.Output.{Output, alone}
use Rattle.line_text.specs.Put.{Put}
use Rattle.line_filed.specs.FiledLine.{output_by, output_of, filed_line_of}
use Rattle.line_filed.specs.Told.{Told}

-- ---- 14: nothing is called
pub too_long : (s filed out out' : List ℕ) (r group : ℕ) → 65536 < length s → Put out 0 (refusal_text Input) out' r × (r ≤ 256) × (group ≡ 0) → Told s filed filed out out' r group
unfolding filed_line_of
too_long s filed out out' r group h (p, l, z) =
    let e : alone (refusal_text Input) ≡ filed_line_of s = rw (lt-ltb 65536 (length s) h) refl in
    rw z (record {
      said = p.bytes ∙ ap (λ (o : Output). o.line) e;
      given = ap (λ (o : Output). o.group) e;
      room = l;
      rest = p.rest;
      inside = omega arith;
      behind = refl;
    })

-- ---- the call was made: the line of its answer, and how many bytes of the room it says to be the group
abbrev line_by : FiledAnswer → List ℕ
line_by a = (output_by a []).line

abbrev size_by : FiledAnswer → ℕ → ℕ
size_by (Corrected records pairs overlapping growth) n = n
size_by (AlreadyDone records growth) n = 0
size_by (Refused r) n = 0

size_most : (a : FiledAnswer) (n : ℕ) → size_by a n ≤ n
size_most (Corrected records pairs overlapping growth) n = omega arith
size_most (AlreadyDone records growth) n = omega arith
size_most (Refused r) n = omega arith

-- y is what is written, x stands in the room that was lent
record Shown (s filed : List ℕ) (x y : Ended) : Type 0 where
  line : line_by x.answer ≡ (output_of y).line
  front : take (size_by x.answer (length s)) x.bytes ≡ (output_of y).group
  behind : drop (size_by x.answer (length s)) x.bytes ≡ drop (size_by x.answer (length s)) filed

take_whole : (n : ℕ) (u t : List ℕ) → length u ≡ n → take n (u ++ t) ≡ u
take_whole n u t h = take-append-le n u t (omega arith) ∙ take_all n u (omega arith)

drop_whole : (n : ℕ) (u t : List ℕ) → length u ≡ n → drop n (u ++ t) ≡ t
drop_whole n u t h = let z : n ≡ length u + 0 = omega arith in rw z (drop-append-add u t 0)

shown : (s filed : List ℕ) (x y : Ended) → Outcome s filed zeroed x y → Shown s filed x y
shown s filed x y (wrote n q o h u l ex ey) =
    rw (ex, ey) (record {
      line = refl;
      front = take_whole (length s) u (drop (length s) filed) l;
      behind = drop_whole (length s) u (drop (length s) filed) l;
    })
shown s filed x y (known n h ex ey) = rw (ex, ey) (record { line = refl; front = refl; behind = refl })
shown s filed x y (refused r ex ey) = rw (ex, ey) (record { line = refl; front = refl; behind = refl })

-- whatever the call answers, where it left u in the room
pub answered : (s filed : List ℕ) → length s ≤ 65536 → 65536 ≤ length filed → (z : CorrectionStats) → z ≡ zeroed → (f : Filed) (u : List ℕ) → ended f.answer u f.stats ≡ filed_of s filed z
    → (a : FiledAnswer) → f.answer ≡ a → (out out' : List ℕ) (n group : ℕ) → Put out 0 (line_by a) out' n × (n ≤ 256) × (group ≡ size_by a (length s)) → Told s filed u out out' n group
unfolding filed_line_of
answered s filed fits wide z ez f u e a ea out out' n group (p, l, is) =
    let whole : filed_of s filed zeroed ≡ ended a u f.stats = ap (filed_of s filed) (sym ez) ∙ sym e ∙ ap (λ (x : FiledAnswer). ended x u f.stats) ea in
    let opened : output_of (filed_of s s zeroed) ≡ filed_line_of s = rw (le-ltb 65536 (length s) fits) refl in
    let w : Shown s filed (ended a u f.stats) (filed_of s s zeroed) = rw whole at (shown s filed (filed_of s filed zeroed) (filed_of s s zeroed) (outcome s filed zeroed (omega arith))) in
    rw is (record {
      said = p.bytes ∙ w.line ∙ ap (λ (o : Output). o.line) opened;
      given = w.front ∙ ap (λ (o : Output). o.group) opened;
      room = l;
      rest = p.rest;
      inside = omega (arith, size_most a (length s));
      behind = w.behind;
    })
