-- The exported calls on filed groups, by their cases.
use Rattle.std.specs.Prelude.{Result, Ok, Err}
use Prim.Native.Nat.{ℕ}
use mathlib.Core.Path.{◌≡◌, ap, ◌∙◌}
use mathlib.Core.List.{List}
use lib.ListN.{length}
use borrow.Author.Tests.{eq-eqb, ne_eqb}
use Rattle.refusal.specs.declared.Refusal.{Refusal}
use Rattle.refusal.specs.declared.Refusal.TheVariants.{CountsSlice}
use Rattle.refusal.specs.Table.{code_of}
use Rattle.stats.specs.declared.CorrectionStats.{CorrectionStats}
use Rattle.stats.specs.Tally.{counts_at, with_counts}
use Rattle.filed.specs.declared.FiledAnswer.TheVariants.{Corrected, AlreadyDone, Refused}
use Rattle.filed.specs.Filed.{Ended, filed_of}
use Rattle.filed_raw.specs.Filing as Filing
use Rattle.overlap_c.specs.FiledCall.{filed_returned, filed_called, filed_call_of, trailer_returned, trailer_called, trailer_call_of}

module _ (s out c : List ℕ) where
  pub filed_slice_wrong : (n : ℕ) → n ≡ code_of CountsSlice → (length c ≡ 32 → ⊥) → filed_returned n out c ≡ filed_call_of s out c
  unfolding filed_call_of
  filed_slice_wrong n e h = rw (ne_eqb (length c) 32 h) (ap (λ (x : ℕ). filed_returned x out c) e)

  -- the call on the filed group, made with the counts of the slice
  module _ (size : length c ≡ 32) (g : CorrectionStats) (is : g ≡ counts_at c 0) (e : Ended) (ee : e ≡ filed_of s out g) where
    filed_as : filed_called c e ≡ filed_call_of s out c
    unfolding filed_call_of
    filed_as = rw (eq-eqb (length c) 32 size) (ap (filed_called c) (ee ∙ ap (filed_of s out) is))

    pub filed_corrected : (n q o : ℕ) (h : CorrectionStats) (d : List ℕ) → e.answer ≡ Corrected n q o h → d ≡ with_counts c 0 e.stats → filed_returned 0 e.bytes d ≡ filed_call_of s out c
    filed_corrected n q o h d a f = ap (filed_returned 0 e.bytes) f ∙ (rw a at filed_as)

    pub filed_known : (n : ℕ) (h : CorrectionStats) → e.answer ≡ AlreadyDone n h → filed_returned 1 e.bytes c ≡ filed_call_of s out c
    filed_known n h a = rw a at filed_as

    pub filed_refused : (r : Refusal) (k : ℕ) → e.answer ≡ Refused r → k ≡ code_of r → filed_returned k e.bytes c ≡ filed_call_of s out c
    filed_refused r k a f = ap (λ (x : ℕ). filed_returned x e.bytes c) f ∙ (rw a at filed_as)

-- ---- a raw trailer
module _ (s : List ℕ) (m k : ℕ) (t t' : List ℕ) (a : Result ℕ Refusal) (e : Filing.filing a t' ≡ Filing.file_of m k s t) where
  trailer_as : trailer_called (Filing.filing a t') ≡ trailer_call_of s m k t
  unfolding trailer_call_of
  trailer_as = ap trailer_called e

  pub trailer_made : (n : ℕ) → a ≡ Ok n → trailer_returned 0 t' ≡ trailer_call_of s m k t
  trailer_made n f = rw f at trailer_as

  pub trailer_refused : (r : Refusal) (x : ℕ) → a ≡ Err r → x ≡ code_of r → trailer_returned x t' ≡ trailer_call_of s m k t
  trailer_refused r x f g = ap (λ (y : ℕ). trailer_returned y t') g ∙ (rw f at trailer_as)
