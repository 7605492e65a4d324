-- The filing by its cases; and the trailer that is made fits its frames.
use Rattle.std.specs.Prelude.{Result, Ok, Err}
use Prim.Native.Nat.{ℕ, zero, suc, ◌+◌, ◌*◌, ◌<◌, ◌≤◌}
use mathlib.Core.Path.{◌≡◌, refl, sym, ap, ◌∙◌}
use mathlib.Core.Bool.{Bool, true, false, cond}
use mathlib.Core.List.{List, ◌++◌}
use mathlib.Core.Logic.{⊎_elim}
use native.Mathlib.Omega.{arith}
use lib.Dec.{ltb}
use lib.ListN.{length, take, drop}
use lib.Seq.{take_at}
use borrow.Author.Tests.{lt-ltb, le-ltb, eq-eqb}
use Rattle.refusal.specs.declared.Refusal.{Refusal}
use Rattle.refusal.specs.declared.Refusal.TheVariants.{Strategy, OutputShort}
use Rattle.fields.proofs.Arith.{lt_or_le}
use Rattle.stats.specs.Counts.{zeroed}
use Rattle.strategy.specs.declared.Strategies.{Strategies}
use Rattle.strategy.specs.Number.{agreement_of, disagreement_of, named, numbered_of}
use Rattle.strategy.proofs.NumberLaws.{first_none, second_none}
use Rattle.group_frames.specs.Frame.{begin_of, frames_of}
use Rattle.group_frames.specs.Table.{Filled}
use Rattle.filed_ending.specs.Ending.{ending_of}
use Rattle.group_frames.proofs.CleanLaws.{whole_clean}
use Rattle.filed_ending.proofs.EndLaws.{ending_at, whole_ends}
use Rattle.filed_trailer.specs.declared.Trailer.{Trailer}
use Rattle.filed_trailer.specs.Trailer.{trailer_at, wrong, raw_trailer, raw_in}
use Rattle.filed_trailer.proofs.TrailerLaws.{trailer, trailer_at_lem, raw_size, raw_zero, raw_reads}
use Rattle.filed_raw.specs.Filing.{Filed, filing, on_frames, on_numbered, file_of}

-- ---- numbers that fit
refused_are : (r : Refusal) (w : Strategies) → Err r ≡ Ok w → ⊥
refused_are r w e = let z : ◌≡◌ {A = ℕ} 0 1 = cc in omega arith

-- a number above 2 stands for no strategy
agreement_above : (a : ℕ) → 2 < a → Err Strategy ≡ named (agreement_of a)
agreement_above zero h = absurd (omega (arith, h))
agreement_above (suc zero) h = absurd (omega (arith, h))
agreement_above (suc (suc zero)) h = absurd (omega (arith, h))
agreement_above (suc (suc (suc n))) h = refl

disagreement_above : (d : ℕ) → 2 < d → Err Strategy ≡ named (disagreement_of d)
disagreement_above zero h = absurd (omega (arith, h))
disagreement_above (suc zero) h = absurd (omega (arith, h))
disagreement_above (suc (suc zero)) h = absurd (omega (arith, h))
disagreement_above (suc (suc (suc n))) h = refl

-- numbers that stand for strategies are at most 2
pub are_small : (a d : ℕ) (numbered : Result Strategies Refusal) → numbered ≡ numbered_of a d 93 → (w : Strategies) → numbered ≡ Ok w → (a ≤ 2) × (d ≤ 2)
are_small a d numbered is w e = (
  ⊎_elim (λ (l : 2 < a). absurd (refused_are Strategy w (first_none a d 93 Strategy (agreement_above a l) ∙ sym is ∙ e))) (λ (h : a ≤ 2). h) (lt_or_le 2 a),
  ⊎_elim (λ (l : 2 < d). absurd (refused_are Strategy w (second_none a d 93 Strategy (disagreement_above d l) ∙ sym is ∙ e))) (λ (h : d ≤ 2). h) (lt_or_le 2 d),
)

-- a table that is filled is of at most 256 records
pub filled_few : (s begins : List ℕ) (f : Result ℕ Refusal) (n : ℕ) → Filled s begins f → f ≡ Ok n → n ≤ 256
filled_few s begins f n h e = (rw e at h).few

-- ---- the filing, by what the code finds
module _ (a d : ℕ) (s out : List ℕ) (numbered : Result Strategies Refusal) (is : numbered ≡ numbered_of a d 93) where
  pub numbers_wrong : (r : Refusal) → numbered ≡ Err r → filing (Err r) out ≡ file_of a d s out
  unfolding file_of
  numbers_wrong r e = ap (on_numbered (3 * a + d) s out) (sym e ∙ is)

  module _ (w : Strategies) (are : numbered ≡ Ok w) (f : Result ℕ Refusal) (cut : f ≡ frames_of s) where
    as_framed : on_frames (3 * a + d) s out f ≡ file_of a d s out
    unfolding file_of
    as_framed = ap (on_frames (3 * a + d) s out) cut ∙ ap (on_numbered (3 * a + d) s out) (sym are ∙ is)

    pub frames_wrong : (r : Refusal) → f ≡ Err r → filing (Err r) out ≡ file_of a d s out
    frames_wrong r h = ap (on_frames (3 * a + d) s out) (sym h) ∙ as_framed

    pub room_short : (n : ℕ) → f ≡ Ok n → length out < 50 → filing (Err OutputShort) out ≡ file_of a d s out
    room_short n h l =
        let z : on_frames (3 * a + d) s out (Ok n) ≡ filing (Err OutputShort) out = rw (lt-ltb (length out) 50 l) in
        sym z ∙ ap (on_frames (3 * a + d) s out) (sym h) ∙ as_framed

    pub trailer_made : (n : ℕ) → f ≡ Ok n → 50 ≤ length out → (t : List ℕ) → t ≡ raw_in out (3 * a + d) n (length s) → filing (Ok n) t ≡ file_of a d s out
    trailer_made n h l t g =
        let z : on_frames (3 * a + d) s out (Ok n) ≡ filing (Ok n) (raw_in out (3 * a + d) n (length s)) = rw (le-ltb (length out) 50 l) in
        ap (filing (Ok n)) g ∙ sym z ∙ ap (on_frames (3 * a + d) s out) (sym h) ∙ as_framed

-- ---- what a trailer that was made says
-- the frames are whole, and the trailer is the raw one, with what stood behind it
pub record MadeOf (a d : ℕ) (s out : List ℕ) (n : ℕ) (t : List ℕ) : Type 0 where
  pub agreement : a ≤ 2
  pub disagreement : d ≤ 2
  pub whole : frames_of s ≡ Ok n
  pub bytes : t ≡ raw_in out (3 * a + d) n (length s)

pub made_of : (a d : ℕ) (s out : List ℕ) (n : ℕ) (t : List ℕ) → file_of a d s out ≡ filing (Ok n) t → MadeOf a d s out n t
unfolding file_of
made_of a d s out n t e = numbers (numbered_of a d 93) refl e
  where
    refused : (r : Refusal) → filing (Err r) out ≡ filing (Ok n) t → ⊥
    refused r h =
        let h' : Err r ≡ Ok n = ap (λ (x : Filed). x.answer) h in
        let z : ◌≡◌ {A = ℕ} 0 1 = cc in omega arith

    room : (w : Strategies) → numbered_of a d 93 ≡ Ok w → (m : ℕ) → frames_of s ≡ Ok m → (short : Bool)
        → cond short (filing (Err OutputShort) out) (filing (Ok m) (raw_in out (3 * a + d) m (length s))) ≡ filing (Ok n) t → MadeOf a d s out n t
    room w f m g true h = absurd (refused OutputShort h)
    room w f m g false h =
        let h' : Ok m ≡ Ok n = ap (λ (x : Filed). x.answer) h in
        let z : m ≡ n = cc in
        let k = are_small a d (numbered_of a d 93) refl w f in
        record { agreement = k.0; disagreement = k.1; whole = g ∙ ap Ok z; bytes = sym (ap (λ (x : Filed). x.room) h) ∙ ap (λ (x : ℕ). raw_in out (3 * a + d) x (length s)) z }

    frames : (w : Strategies) → numbered_of a d 93 ≡ Ok w → (f : Result ℕ Refusal) → frames_of s ≡ f → on_frames (3 * a + d) s out f ≡ filing (Ok n) t → MadeOf a d s out n t
    frames w f (Err r) g h = absurd (refused r h)
    frames w f (Ok m) g h = room w f m g (ltb (length out) 50) h

    numbers : (x : Result Strategies Refusal) → numbered_of a d 93 ≡ x → on_numbered (3 * a + d) s out x ≡ filing (Ok n) t → MadeOf a d s out n t
    numbers (Err r) f h = absurd (refused r h)
    numbers (Ok w) f h = frames w f (frames_of s) refl h

module _ (a d : ℕ) (s out : List ℕ) (n : ℕ) (t : List ℕ) (made : file_of a d s out ≡ filing (Ok n) t) where
  -- the first 50 bytes are the trailer
  pub made_trailer : take 50 t ≡ raw_trailer (3 * a + d) n (length s)
  made_trailer =
      ap (take 50) (made_of a d s out n t made).bytes ∙ take_at (raw_trailer (3 * a + d) n (length s)) (drop 50 out) 50 (raw_size (3 * a + d) n (length s))

  -- behind its frames it ends them
  pub made_ends : (ending_of (s ++ take 50 t) ≡ Ok n) × (begin_of (s ++ take 50 t) n ≡ length s)
  made_ends =
      let e = whole_ends s (take 50 t) n (made_of a d s out n t made).whole
      (rw made_trailer (omega (arith, raw_size (3 * a + d) n (length s)))) (rw made_trailer (raw_zero (3 * a + d) n (length s))) in
      (ending_at (s ++ take 50 t) n e.0, e.1)

  module _ (size : length s < 18446744073709551616) where
    -- what it says behind its frames
    pub made_reads : trailer_at (s ++ take 50 t) (length s) ≡ trailer 0 (3 * a + d) n zeroed (length s)
    made_reads =
        trailer_at_lem s (take 50 t) ∙ ap (λ (x : List ℕ). trailer_at x 0) made_trailer
        ∙ raw_reads (3 * a + d) n (length s) (omega (arith, (whole_clean s n (made_of a d s out n t made).whole).0)) size

    -- so it is not wrong there, but raw, for these strategies
    pub made_fits :
        (wrong (trailer_at (s ++ take 50 t) (length s)) n (length s) ≡ false)
        × ((trailer_at (s ++ take 50 t) (length s)).state ≡ 0)
        × ((trailer_at (s ++ take 50 t) (length s)).strategies ≡ 3 * a + d)
    made_fits =
        let k = made_of a d s out n t made in
        let fits : wrong (trailer 0 (3 * a + d) n zeroed (length s)) n (length s) ≡ false =
        rw (le-ltb 8 (3 * a + d) (omega (arith, k.agreement, k.disagreement)), eq-eqb n n refl, eq-eqb (length s) (length s) refl) in
        (ap (λ (x : Trailer). wrong x n (length s)) made_reads ∙ fits, ap (λ (x : Trailer). x.state) made_reads, ap (λ (x : Trailer). x.strategies) made_reads)
