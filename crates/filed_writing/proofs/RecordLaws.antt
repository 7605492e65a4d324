-- What stands at record k, and at its size, of a corrected group.
use Prim.Native.Nat.{ℕ, suc, ◌+◌, ◌-◌, ◌<◌, ◌≤◌}
use mathlib.Core.Path.{◌≡◌, refl, sym, ◌∙◌}
use mathlib.Core.List.{List}
use mathlib.Core.Logic.{◌⊎◌, inl, inr, ⊎_elim}
use native.Mathlib.Omega.{arith}
use lib.ListN.{length, get_or, drop}
use lib.Seq.{ext_get_or, get_or-take, get_or-drop}
use Rattle.fields.proofs.Arith.{lt_or_le}
use Rattle.fields.specs.Among.{Among}
use Rattle.strategy.specs.declared.Strategies.{Strategies}
use Rattle.group_frames.specs.Part.{part}
use Rattle.group_frames.specs.Frame.{begin_of, start_of, end_of, record_of}
use Rattle.group_frames.proofs.PartLaws.{length_part}
use Rattle.group_frames.proofs.PlaceLaws.{begin_mono, start_end, end_in_lem}
use Rattle.group_mates.specs.Register.{role_at, name_at, mates_of, pairs_of}
use Rattle.group_mates.proofs.KeyLaws.{holder_le}
use Rattle.group_mates.proofs.OnceLaws.{mated, none_there, pairs_once}
use Rattle.group_mates.proofs.MateLaws.{made_among}
use Rattle.group_verdicts.specs.Judged.{pair_at}
use Rattle.group_applying.proofs.WrittenLaws.{written_size, written_other, written_first, written_second, written_out}
use Rattle.filed_writing.specs.Written.{corrected}

get_d_part : (xs : List ℕ) (a e i : ℕ) → i < e - a → get_or (part xs a e) i 0 ≡ get_or xs (a + i) 0
get_d_part xs a e i h = get_or-take (e - a) (drop a xs) i 0 h ∙ get_or-drop a xs i 0

-- a record that has a mate is one of the group
first_below : (s : List ℕ) (n i k : ℕ) → mates_of s n i ≡ suc k → i < n
first_below s n i k e = omega (arith, (mated (role_at s) (name_at s) n i k e).held, holder_le (role_at s) (name_at s) 1 (name_at s i) n)

-- its pair is one of the group's
pub made : (s : List ℕ) (n i j : ℕ) → mates_of s n i ≡ suc j → Among (pairs_of s n) i j
made s n i j e = made_among (mates_of s n) n 0 i j (record { low = omega arith; high = omega (arith, first_below s n i j e); made = e })

module _ (w : Strategies) (s : List ℕ) (n : ℕ) (fit : begin_of s n ≤ length s) where
  pub corrected_size : length (corrected w s n) ≡ length s
  corrected_size = written_size w s n fit (pairs_of s n) s refl (pairs_once s n)

  pub first_becomes : (k j : ℕ) → mates_of s n k ≡ suc j → part (corrected w s n) (start_of s k) (end_of s k) ≡ (pair_at w s k j).after.first
  first_becomes k j e = written_first w s n fit (pairs_of s n) s refl (pairs_once s n) k j (made s n k j e)

  pub last_becomes : (i k : ℕ) → mates_of s n i ≡ suc k → part (corrected w s n) (start_of s k) (end_of s k) ≡ (pair_at w s i k).after.second
  last_becomes i k e = written_second w s n fit (pairs_of s n) s refl (pairs_once s n) i k (made s n i k e)

  pub alone_stays : (k : ℕ) → mates_of s n k ≡ 0 → ((i : ℕ) → i < n → mates_of s n i ≡ suc k → ⊥) → part (corrected w s n) (start_of s k) (end_of s k) ≡ record_of s k
  alone_stays k z none =
      written_other w s n fit (pairs_of s n) s refl (pairs_once s n) k (none_there (mates_of s n) k n z (λ i e. none i (first_below s n i k e) e))

  module _ (k : ℕ) (below : k < n) where
    -- byte i of the size of record k is in no record
    apart : (i j : ℕ) → i < 4 → (begin_of s k + i < start_of s j) ⊎ (end_of s j ≤ begin_of s k + i)
    unfolding start_of end_of
    apart i j h =
        ⊎_elim
        (λ (l : j < k). inr (omega (arith, begin_mono s (suc j) k (omega arith))))
        (λ (g : k ≤ j). inl (omega (arith, begin_mono s k j g)))
        (lt_or_le j k)

    pub size_stays : part (corrected w s n) (begin_of s k) (begin_of s k + 4) ≡ part s (begin_of s k) (begin_of s k + 4)
    unfolding start_of
    size_stays =
        let b = begin_of s k in
        let r : b + 4 ≤ length s = omega (arith, start_end s k, end_in_lem s k n below) in
        let l : length (part (corrected w s n) b (b + 4)) ≡ b + 4 - b = length_part (corrected w s n) b (b + 4) (omega arith) (omega (arith, corrected_size)) in
        let m : length (part s b (b + 4)) ≡ b + 4 - b = length_part s b (b + 4) (omega arith) r in
        ext_get_or 0 (part (corrected w s n) b (b + 4)) (part s b (b + 4)) (l ∙ sym m)
        (λ i h. get_d_part (corrected w s n) b (b + 4) i (omega arith)
        ∙ written_out w s n fit (pairs_of s n) s refl (pairs_once s n) (b + i) (λ j t. apart i j (omega arith))
        ∙ sym (get_d_part s b (b + 4) i (omega arith)))
