-- The pair call leaves the answer that is asked of its records as it was: it writes behind their operations alone. So the reason is the same
-- before the call and after it.
use Rattle.std.specs.Prelude.{Result, Ok, Err}
use Rattle.refusal.specs.declared.Refusal.{Refusal}
use Rattle.cigar.specs.declared.Extent.{Extent}
use Rattle.pair_judgement.specs.declared.Untreated.TheVariants as Untreateds
use Prim.Native.Nat.{ℕ, ◌+◌, ◌*◌, ◌/◌, ◌≤◌}
use mathlib.Core.Path.{◌≡◌, refl, sym, ap, ap₂, ◌∙◌}
use mathlib.Core.List.{List}
use mathlib.Core.Bool.{Bool, true, false, cond, ◌||◌}
use native.Mathlib.Omega.{arith}
use lib.Dec.{ltb}
use lib.ListN.{length, take, drop}
use Rattle.refusal.specs.declared.Refusal.TheVariants.{RecordShort, RecordLong, NameAndOperations, BasesAndQualities, Count, Cap}
use Rattle.fields.specs.declared.Layout.{Layout}
use Rattle.fields.specs.declared.RefPos.{RefPos}
use Rattle.fields.specs.Number.{unsigned, signed32}
use Rattle.fields.specs.Flag.{has_bit, unmapped}
use Rattle.fields.specs.Layout.{Header, header, operations_at, bases_at, layout_of}
use Rattle.fields.specs.Position.{position_of, same_id}
use Rattle.fields.specs.Check.{check_of}
use Rattle.fields.proofs.CheckLaws.{le_take, good_sound}
use Rattle.stats.specs.Counts.{full}
use Rattle.strategy.specs.declared.Strategies.{Strategies}
use Rattle.strategy.specs.Cap.{cap_outside}
use Rattle.cigar.specs.Operation.{ref_sum, ops_of, ops_in}
use Rattle.cigar.specs.Found.{base_on}
use Rattle.cigar.specs.Judge.{walk_of, judged, operations_of, span_of}
use Rattle.positions.specs.Step.{State, job}
use Rattle.positions.proofs.StepLaws.{steps_front, steps_length}
use Rattle.pair_merge.specs.Shared.{pairs, shared, merged}
use Rattle.pair_judgement.specs.declared.Reason.TheVariants.{Unmapped, ReferencesDiffer, NoReferenceLength}
use Rattle.pair_judgement.specs.Judgement.{on_uses, on_span, on_position, span_in, mapped_of, judged_of, Judged}
use Rattle.pair_judgement.specs.Reason.{lengthless}
use Rattle.pair.specs.declared.Answer.TheVariants as Answers
use Rattle.pair.specs.Pair.{outcome, answer_of, on_reference, on_judged, on_good, records_of, pair_of}
use Rattle.pair_reason.specs.Reason.{on_both, on_sound, answer_on, reason_call_of, reason_code}

-- ---- a record as long as another, with the same bytes before its bases
record Front (a a' : List ℕ) : Type 0 where
  size : length a' ≡ length a
  front : take (bases_at a) a' ≡ take (bases_at a) a

-- a number among the first 32 bytes
field : {a a' : List ℕ} → Front a a' → (w at : ℕ) → at + w ≤ 32 → unsigned w a' at ≡ unsigned w a at
field {a} {a'} f w at h =
    sym (le_take w (bases_at a) a' at (omega arith)) ∙ (ap (λ (l : List ℕ). unsigned w l at) f.front ∙ le_take w (bases_at a) a at (omega arith))

module _ {a a' : List ℕ} (f : Front a a') where
  signed : (at : ℕ) → at + 4 ≤ 32 → signed32 (unsigned 4 a' at) ≡ signed32 (unsigned 4 a at)
  signed at h = ap signed32 (field f 4 at h)

  header_same : header a' ≡ header a
  header_same i =
      record {
        ref_id = signed 0 (omega arith) i;
        pos = signed 4 (omega arith) i;
        name_length = field f 1 8 (omega arith) i;
        mapq = field f 1 9 (omega arith) i;
        bin = field f 2 10 (omega arith) i;
        operation_count = field f 2 12 (omega arith) i;
        flags = field f 2 14 (omega arith) i;
        l_seq = field f 4 16 (omega arith) i;
        mate_id = signed 20 (omega arith) i;
        mate_pos = signed 24 (omega arith) i;
        template_length = signed 28 (omega arith) i;
      }

  ops_same : ops_in (layout_of a) a' ≡ ops_in (layout_of a) a
  ops_same = ap (λ (l : List ℕ). ops_of (drop (operations_at a) l)) f.front

-- ---- what each step goes by
bases : Header → ℕ
bases h = 32 + h.name_length + 4 * h.operation_count

qualities : Header → ℕ
qualities h = bases h + (h.l_seq + 1) / 2

layout_by : Header → Layout
layout_by h = record { operations = 32 + h.name_length; bases = bases h; qualities = qualities h; count = h.l_seq }

check_by : ℕ → Header → ℕ → Result Layout Refusal
check_by n h p =
    cond (ltb n 32) (Err (RecordShort p))
    (cond (ltb 65536 n) (Err (RecordLong p))
    (cond (ltb n (bases h)) (Err (NameAndOperations p))
    (cond (ltb n (qualities h + h.l_seq)) (Err (BasesAndQualities p)) (Ok (layout_by h)))))

span_by : Layout → List ℕ → ℕ → ℕ → Result Extent Refusal
span_by y ops pos place = on_uses (judged y.count (length ops) place (walk_of ops)) (λ n. span_of pos n place)

judged_by : Layout → Layout → Header → Header → List ℕ → List ℕ → Judged
judged_by y z h k ops ops' =
    cond (has_bit h.flags unmapped || has_bit k.flags unmapped) (Err (Untreateds.Apart Unmapped))
    (cond (same_id h.ref_id k.ref_id)
    (on_position (position_of h.pos) (λ p. on_position (position_of k.pos) (λ q.
    on_span (span_by y ops p 1) (λ s. on_span (span_by z ops' q 2) (λ t. Ok (s, t))))))
    (Err (Untreateds.Apart ReferencesDiffer)))

shared_by : Layout → Layout → RefPos → RefPos → List ℕ → List ℕ → List (ℕ × ℕ)
shared_by y z p q ops ops' = pairs (base_on y.count ops p.0) (base_on z.count ops' q.0) p.0 (ref_sum ops)

-- two such records are answered alike
module _ {a a' b b' : List ℕ} (f : Front a a') (g : Front b b') where
  check_same : {c c' : List ℕ} → Front c c' → (p : ℕ) → check_of c' p ≡ check_of c p
  unfolding check_of bases qualities layout_by check_by
  check_same {c} {c'} e p = ap₂ (λ (n : ℕ) (h : Header). check_by n h p) e.size (header_same e)

  judged_same : judged_of (layout_of a) (layout_of b) a' b' 1 2 ≡ judged_of (layout_of a) (layout_of b) a b 1 2
  unfolding judged_of mapped_of span_in operations_of span_by judged_by
  judged_same =
      ap₂ (λ (h k : Header). judged_by (layout_of a) (layout_of b) h k (ops_in (layout_of a) a') (ops_in (layout_of b) b')) (header_same f) (header_same g)
      ∙ ap₂ (λ (l m : List ℕ). judged_by (layout_of a) (layout_of b) (header a) (header b) l m) (ops_same f) (ops_same g)

  shared_same : (p q : RefPos) → shared (layout_of a) (layout_of b) p q a' b' ≡ shared (layout_of a) (layout_of b) p q a b
  unfolding shared shared_by
  shared_same p q = ap₂ (λ (l m : List ℕ). shared_by (layout_of a) (layout_of b) p q l m) (ops_same f) (ops_same g)

  both_same : (j : Judged) → on_both (layout_of a) (layout_of b) a' b' j ≡ on_both (layout_of a) (layout_of b) a b j
  both_same (Err (Untreateds.Refused r)) = refl
  both_same (Err (Untreateds.Apart r)) = refl
  both_same (Ok (p, q)) =
      ap (λ (l : List (ℕ × ℕ)). cond (lengthless p q) (Answers.NoOverlap NoReferenceLength) (answer_of l)) (shared_same p.start q.start)

  front_answer : answer_on a' b' ≡ answer_on a b
  unfolding answer_on
  front_answer = rw (check_same f 1, check_same g 2) (one (check_of a 1) refl)
    where
      two : (k : Result Layout Refusal) → check_of b 2 ≡ k
          → on_sound k (λ z. on_both (layout_of a) z a' b' (judged_of (layout_of a) z a' b' 1 2)) ≡ on_sound k (λ z. on_both (layout_of a) z a b (judged_of (layout_of a) z a b 1 2))
      two (Ok z) e =
          let l = (good_sound b 2 z e).layout in
          rw l (ap (on_both (layout_of a) (layout_of b) a' b') judged_same ∙ both_same (judged_of (layout_of a) (layout_of b) a b 1 2))
      two (Err r) e = refl

      one : (k : Result Layout Refusal) → check_of a 1 ≡ k
          → on_sound k (λ y. on_sound (check_of b 2) (λ z. on_both y z a' b' (judged_of y z a' b' 1 2))) ≡ on_sound k (λ y. on_sound (check_of b 2) (λ z. on_both y z a b (judged_of y z a b 1 2)))
      one (Ok y) e = let l = (good_sound a 1 y e).layout in rw l (two (check_of b 2) refl)
      one (Err r) e = refl

-- ---- what the call leaves
record Fronts (s u : State) : Type 0 where
  first : Front s.first u.first
  second : Front s.second u.second

unchanged : (s : State) → Fronts s s
unchanged s = record { first = record { size = refl; front = refl }; second = record { size = refl; front = refl } }

module _ (w : Strategies) (s : State) where
  abbrev y : Layout
  y = layout_of s.first

  abbrev z : Layout
  z = layout_of s.second

  judged_fronts : (j : Judged) → Fronts s (on_judged w y z s j).after
  unfolding merged
  judged_fronts (Err (Untreateds.Refused r)) = unchanged s
  judged_fronts (Err (Untreateds.Apart r)) = unchanged s
  judged_fronts (Ok (p, q)) = go (lengthless p q)
    where
      go : (t : Bool) → Fronts s (on_reference w y z s p.start q.start t).after
      go true = unchanged s
      go false =
          let l = shared y z p.start q.start s.first s.second in
          let kept = steps_front (job w y z) l s (omega arith) (omega arith) in
          let long = steps_length (job w y z) l s in
          record { first = record { size = long.0; front = kept.0 }; second = record { size = long.1; front = kept.1 } }

  call_fronts : Fronts s (pair_of w s).after
  unfolding pair_of records_of
  call_fronts = checks (cap_outside w.cap) (full s.stats)
    where
      two : (k : Result Layout Refusal) → check_of s.second 2 ≡ k → Fronts s (on_good k s (λ x. on_judged w y x s (judged_of y x s.first s.second 1 2))).after
      two (Ok x) e = rw (good_sound s.second 2 x e).layout (judged_fronts (judged_of y z s.first s.second 1 2))
      two (Err r) e = unchanged s

      one : (k : Result Layout Refusal) → check_of s.first 1 ≡ k → Fronts s (on_good k s (λ v. on_good (check_of s.second 2) s (λ x. on_judged w v x s (judged_of v x s.first s.second 1 2)))).after
      one (Ok v) e = rw (good_sound s.first 1 v e).layout (two (check_of s.second 2) refl)
      one (Err r) e = unchanged s

      checks : (c t : Bool) → Fronts s (cond c (outcome (Answers.Refused Cap) s) (cond t (outcome (Answers.Refused Count) s) (records_of w s 1 2))).after
      checks true t = unchanged s
      checks false true = unchanged s
      checks false false = one (check_of s.first 1) refl

  -- the reason that is asked of what the call leaves is the one that was asked of what it was given
  pub reason_again : reason_call_of (pair_of w s).after.first (pair_of w s).after.second ≡ reason_call_of s.first s.second
  reason_again = ap reason_code (front_answer call_fronts.first call_fronts.second)
