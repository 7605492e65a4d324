-- Laws of the walk of two cursors.
use Prim.Native.Nat.{ℕ, ◌+◌, ◌-◌, ◌*◌, ◌≤◌, ◌<◌}
use mathlib.Core.Path.{◌≡◌, refl, sym, ap, ap₂, subst, ◌∙◌}
use mathlib.Core.List.{List, [], ◌++◌}
use mathlib.Core.Bool.{true, false}
use mathlib.Core.Option.{Option}
use mathlib.Core.Logic.{inl, inr, ⊎_elim}
use native.Mathlib.Omega.{arith}
use lib.ListN.{length, take, drop, length-append}
use lib.Dec.{ltb}
use lib.Seq.{length-take-le}
use borrow.Author.Tests.{lt-ltb, le-ltb}
use Rattle.fields.specs.declared.Layout.{Layout}
use Rattle.fields.specs.declared.RefPos.{RefPos}
use Rattle.fields.specs.Sound.{Lies}
use Rattle.fields.proofs.Arith.{lt_or_le}
use Rattle.stats.specs.Room.{Room}
use Rattle.stats.proofs.CountLaws.{room_less}
use Rattle.strategy.specs.declared.Strategies.{Strategies}
use Rattle.cigar.specs.declared.Cursor.{Cursor}
use Rattle.cigar.specs.Operation.{read_sum, ref_sum, ops_of, ops_in}
use Rattle.cigar.specs.Found.{off_at, base_on}
use Rattle.cigar.specs.Passing.{cursor, cur_off, read_end, ref_end, advanced, Settled, Stands}
use Rattle.cigar.proofs.PlaceLaws.{run_zero}
use Rattle.cigar.proofs.SitsLaws.{base_off}
use Rattle.cigar.proofs.CursorLaws.{cur_below, cur_in, cur_done, advance_same}
use Rattle.positions.specs.Step.{job, State}
use Rattle.positions.specs.Treating.{steps, row}
use Rattle.positions.proofs.StepLaws.{steps_append, steps_front, steps_length, steps_room, row_length}
use Rattle.pair_merge.specs.Shared.{base_in, pairs, shared, merged, Walked}
use Rattle.pair_merge.specs.Meeting.{Side, Ready, Skipped}
use Rattle.pair_merge.proofs.PairLaws.{skip_to, none_left, take_row}

-- ---- one of the two cursors: from position p on it stands for what the record has
pub side_start : (cig : List ℕ) (at r p count : ℕ) (c : Cursor) → read_sum (ops_of (drop at cig)) ≤ count → Settled cig (cursor at 0 r 0) c
    → Side cig (base_on count (ops_of (drop at cig)) r) p count (r + ref_sum (ops_of (drop at cig))) c
unfolding cur_off
side_start cig at r p count c h s =
    record {
      ahead =
          λ t l.
          base_off count (ops_of (drop at cig)) r t h
          ∙ sym (s.kept.same t ∙ (run_zero 0 r t _ ∙ ap₂ (λ (x y : ℕ). off_at (ops_of (drop at cig)) x y t) (omega arith) (omega arith)));
      reads = omega (arith, s.kept.reads);
      refs = omega (arith, s.kept.refs);
      within = s.within;
      done = s.done;
    }

-- after d bases
pub side_next : (cig : List ℕ) (o : ℕ → Option ℕ) (p p' len e d : ℕ) (c c' : Cursor) → Side cig o p len e c → d ≤ c.left → p ≤ p' → c.position.0 + d ≤ p' → Settled cig (advanced c d) c'
    → Side cig o p' len e c'
side_next cig o p p' len e d c c' s hd hp hr n =
    record {
      ahead = λ t l. s.ahead t (omega arith) ∙ sym (n.kept.same t ∙ advance_same cig c d t hd (omega arith));
      reads = omega (arith, n.kept.reads, s.reads);
      refs = omega (arith, n.kept.refs, s.refs);
      within = n.within;
      done = n.done;
    }

-- the same cursor, from a later position on
side_later : (cig : List ℕ) (o : ℕ → Option ℕ) (p p' len e : ℕ) (c : Cursor) → Side cig o p len e c → p ≤ p' → Side cig o p' len e c
side_later cig o p p' len e c s h =
    record { ahead = λ t l. s.ahead t (omega arith); reads = s.reads; refs = s.refs; within = s.within; done = s.done }

pub side_stands : (cig : List ℕ) (o : ℕ → Option ℕ) (p len e : ℕ) (c : Cursor) → Side cig o p len e c → len ≤ 4294967296 → e ≤ 4294967296 → Stands cig c
side_stands cig o p len e c s h k = record { within = s.within; reads = omega (arith, s.reads); refs = omega (arith, s.refs) }

-- ---- two cursors that go on to the next position at which both have a base
-- what a cursor stands for that stands for what another does
side_then : (cig : List ℕ) (o : ℕ → Option ℕ) (p p' len e : ℕ) (c d : Cursor) → Side cig o p len e c → p ≤ p' → Side cig (cur_off cig c) p' (read_end cig c) (ref_end cig c) d → Side cig o p' len e d
side_then cig o p p' len e c d s h n =
    record {
      ahead = λ t l. s.ahead t (omega arith) ∙ n.ahead t l;
      reads = omega (arith, n.reads, s.reads);
      refs = n.refs ∙ s.refs;
      within = n.within;
      done = n.done;
    }

skipped_at : {l l' m m' : List ℕ} {a b c d : Cursor} → l ≡ l' → m ≡ m' → Skipped l m a b c d → Skipped l' m' a b c d
skipped_at {l' = l'} {m = m} {a = a} {b = b} {c = c} {d = d} e f s =
    subst (λ (x : List ℕ). Skipped l' x a b c d) f (subst (λ (x : List ℕ). Skipped x m a b c d) e s)

module _ (cig₁ cig₂ : List ℕ) (a b : Cursor) where
  pub skipped_start : Ready cig₁ a → Ready cig₂ b → Skipped cig₁ cig₂ a b a b
  skipped_start f g =
      record {
        side₁ = record { ahead = λ t l. refl; reads = omega arith; refs = refl; within = f.stands.within; done = f.done };
        side₂ = record { ahead = λ t l. refl; reads = omega arith; refs = refl; within = g.stands.within; done = g.done };
        up = omega arith;
        on = omega arith;
        apart = λ t lo hi. absurd (omega arith);
      }

  -- the first record's next base lies before the second's
  pub skipped_first : (c d c' : Cursor) (n : ℕ) → Skipped cig₁ cig₂ a b c d → n ≤ c.left → c.position.0 + n ≤ d.position.0 → Settled cig₁ (advanced c n) c' → Skipped cig₁ cig₂ a b c' d
  skipped_first c d c' n m hn hr s =
      let up : c.position.0 + n ≤ c'.position.0 = s.kept.up in
      let s1 = side_next cig₁ (cur_off cig₁ a) c.position.0 (c.position.0 + n) (read_end cig₁ a) (ref_end cig₁ a) n c c' m.side₁ hn (omega arith) (omega arith) s in
      record {
        side₁ = side_later cig₁ (cur_off cig₁ a) (c.position.0 + n) c'.position.0 (read_end cig₁ a) (ref_end cig₁ a) c' s1 up;
        side₂ = side_later cig₂ (cur_off cig₂ b) c.position.0 c'.position.0 (read_end cig₂ b) (ref_end cig₂ b) d m.side₂ (omega arith);
        up = omega (arith, m.up);
        on = omega (arith, s.kept.on, m.on);
        apart =
            λ t lo hi.
            ⊎_elim (λ l. m.apart t lo l)
            (λ l.
            ⊎_elim (λ k. inr (m.side₂.ahead t l ∙ cur_below cig₂ d t (omega arith)))
            (λ k. inl (s1.ahead t k ∙ cur_below cig₁ c' t hi))
            (lt_or_le t (c.position.0 + n)))
            (lt_or_le t c.position.0);
      }

  -- the second record's next base lies before the first's
  pub skipped_second : (c d d' : Cursor) (n : ℕ) → Skipped cig₁ cig₂ a b c d → n ≤ d.left → d.position.0 + n ≤ c.position.0 → Settled cig₂ (advanced d n) d' → Skipped cig₁ cig₂ a b c d'
  skipped_second c d d' n m hn hr s =
      record {
        side₁ = m.side₁;
        side₂ = side_next cig₂ (cur_off cig₂ b) c.position.0 c.position.0 (read_end cig₂ b) (ref_end cig₂ b) n d d' m.side₂ hn (omega arith) (omega arith) s;
        up = m.up;
        on = m.on;
        apart = m.apart;
      }

-- a cursor that stands for the bases of one that stands in `cig` stands there as well
pub goes_on : (cig : List ℕ) (a c : Cursor) (p : ℕ) → Ready cig a → Side cig (cur_off cig a) p (read_end cig a) (ref_end cig a) c → Stands cig c
goes_on cig a c p f s = side_stands cig (cur_off cig a) p (read_end cig a) (ref_end cig a) c s f.stands.reads f.stands.refs

-- and is nearer to the end after a base
pub nearer : (cig : List ℕ) (a c c' : Cursor) (p n : ℕ) → Side cig (cur_off cig a) p (read_end cig a) (ref_end cig a) c → 0 < n → n ≤ c.left → Settled cig (advanced c n) c'
    → ref_end cig a - c'.position.0 < ref_end cig a - c.position.0
nearer cig a c c' p n s h k t = omega (arith, s.refs, t.kept.up)

-- ---- the loop: what is left gives from here what the whole gives from the start
module _ (v : Strategies) (y z : Layout) (r t : RefPos) (s₀ : State) where
  abbrev pub cig₁ : List ℕ
  cig₁ = take y.bases s₀.first

  abbrev pub cig₂ : List ℕ
  cig₂ = take z.bases s₀.second

  abbrev pub o₁ : ℕ → Option ℕ
  o₁ = base_in y s₀.first r

  abbrev pub o₂ : ℕ → Option ℕ
  o₂ = base_in z s₀.second t

  abbrev pub e₁ : ℕ
  e₁ = r.0 + ref_sum (ops_in y s₀.first)

  abbrev pub e₂ : ℕ
  e₂ = t.0 + ref_sum (ops_in z s₀.second)

  -- the offsets that are left to treat from position p on
  abbrev pub ahead : ℕ → List (ℕ × ℕ)
  ahead p = pairs o₁ o₂ p (e₁ - p)

  pub record Merging (a b : Cursor) (met : ℕ) (s : State) : Type 0 where
    pub side₁ : Side cig₁ o₁ a.position.0 y.count e₁ a
    pub side₂ : Side cig₂ o₂ a.position.0 z.count e₂ b
    pub first : length s.first ≡ length s₀.first
    pub second : length s.second ≡ length s₀.second
    pub front₁ : take y.bases s.first ≡ cig₁
    pub front₂ : take z.bases s.second ≡ cig₂
    pub room : Room s.stats (2 * (y.count - a.offset.0))
    pub few : met ≤ a.offset.0
    pub left : steps (job v y z) (ahead a.position.0) s ≡ merged (job v y z) r t s₀
    pub counted : met + length (ahead a.position.0) ≡ length (shared y z r t s₀.first s₀.second)

  -- the same is left from a later position on
  later : (p p' met : ℕ) (s : State) → ahead p ≡ ahead p' → steps (job v y z) (ahead p) s ≡ merged (job v y z) r t s₀ → steps (job v y z) (ahead p') s ≡ merged (job v y z) r t s₀
  later p p' met s e h = ap (λ (l : List (ℕ × ℕ)). steps (job v y z) l s) (sym e) ∙ h

  -- at the start
  pub merging_start : (a b : Cursor) → Walked y r s₀.first → Walked z t s₀.second → Room s₀.stats (2 * y.count)
      → Settled cig₁ (cursor y.operations 0 r.0 0) a → Settled cig₂ (cursor z.operations 0 t.0 0) b → Merging a b 0 s₀
  unfolding merged shared
  merging_start a b wy wz m sa sb =
      let s1 = side_start cig₁ y.operations r.0 r.0 y.count a wy.reads sa in
      let start : ahead r.0 ≡ shared y z r t s₀.first s₀.second = ap (λ (n : ℕ). pairs o₁ o₂ r.0 n) (omega arith) in
      let same : ahead r.0 ≡ ahead a.position.0 = skip_to o₁ o₂ e₁ r.0 a.position.0 sa.kept.up (λ u lo hi. inl (s1.ahead u lo ∙ cur_below cig₁ a u hi)) in
      record {
        side₁ = side_later cig₁ o₁ r.0 a.position.0 y.count e₁ a s1 sa.kept.up;
        side₂ = side_start cig₂ z.operations t.0 a.position.0 z.count b wz.reads sb;
        first = refl;
        second = refl;
        front₁ = refl;
        front₂ = refl;
        room = room_less s₀.stats _ _ (omega arith) m;
        few = omega arith;
        left = ap (λ (l : List (ℕ × ℕ)). steps (job v y z) l s₀) (sym same ∙ start);
        counted = omega (arith, ap length same, ap length start);
      }

  -- the cursors gone on to where both have a base
  pub merging_skipped : (a b c d : Cursor) (met : ℕ) (s : State) → Merging a b met s → Skipped (take y.bases s.first) (take z.bases s.second) a b c d → Merging c d met s
  merging_skipped a b c d met s m k' =
      let k : Skipped cig₁ cig₂ a b c d = skipped_at m.front₁ m.front₂ k' in
      let same : ahead a.position.0 ≡ ahead c.position.0 =
      skip_to o₁ o₂ e₁ a.position.0 c.position.0 k.up
      (λ u lo hi. ⊎_elim (λ x. inl (m.side₁.ahead u lo ∙ x)) (λ x. inr (m.side₂.ahead u lo ∙ x)) (k.apart u lo hi)) in
      record {
        side₁ = side_then cig₁ o₁ a.position.0 c.position.0 y.count e₁ a c m.side₁ k.up k.side₁;
        side₂ = side_then cig₂ o₂ a.position.0 c.position.0 z.count e₂ b d m.side₂ k.up k.side₂;
        first = m.first;
        second = m.second;
        front₁ = m.front₁;
        front₂ = m.front₂;
        room = room_less s.stats _ _ (omega (arith, k.on)) m.room;
        few = omega (arith, k.on, m.few);
        left = later a.position.0 c.position.0 met s same m.left;
        counted = omega (arith, ap length same, m.counted);
      }

  -- what going on asks
  pub poised : (a b : Cursor) (met : ℕ) (s : State) → Merging a b met s → Lies y (length s₀.first) → Lies z (length s₀.second) → Walked y r s₀.first → Walked z t s₀.second
      → (y.bases ≤ length s.first) × (z.bases ≤ length s.second) × Ready (take y.bases s.first) a × Ready (take z.bases s.second) b
  poised a b met s m hy hz wy wz = (
    omega (arith, hy.bases, hy.qualities, m.first),
    omega (arith, hz.bases, hz.qualities, m.second),
    rw m.front₁ (record { stands = side_stands cig₁ o₁ a.position.0 y.count e₁ a m.side₁ wy.small wy.refs; done = m.side₁.done }),
    rw m.front₂ (record { stands = side_stands cig₂ o₂ a.position.0 z.count e₂ b m.side₂ wz.small wz.refs; done = m.side₂.done }),
  )

  -- both at one position: a row of k shared positions lies ahead
  row_ahead : (a b : Cursor) (met : ℕ) (s : State) (k : ℕ) → Merging a b met s → k ≤ a.left → k ≤ b.left → a.position.0 ≡ b.position.0
      → ahead a.position.0 ≡ row a.offset.0 b.offset.0 k ++ ahead (a.position.0 + k)
  row_ahead a b met s k m ha hb er =
      take_row o₁ o₂ e₁ a.position.0 a.offset.0 b.offset.0 k (omega (arith, m.side₁.refs))
      (λ u hi. m.side₁.ahead (a.position.0 + u) (omega arith) ∙ cur_in cig₁ a u (omega arith))
      (λ u hi. m.side₂.ahead (a.position.0 + u) (omega arith) ∙ (ap (λ (x : ℕ). cur_off cig₂ b (x + u)) er ∙ cur_in cig₂ b u (omega arith)))

  -- so some position is shared
  pub merging_met : (a b : Cursor) (s : State) → Merging a b 0 s → (a.left ≡ 0 → ⊥) → (b.left ≡ 0 → ⊥) → a.position.0 ≡ b.position.0
      → true ≡ ltb 0 (length (shared y z r t s₀.first s₀.second))
  merging_met a b s m ha hb er =
      let front = row_ahead a b 0 s 1 m (omega arith) (omega arith) er in
      sym (lt-ltb 0 (length (shared y z r t s₀.first s₀.second)) (omega (arith, simp length-append at (ap length front), row_length a.offset.0 b.offset.0 1, m.counted)))

  -- both at one position: k shared positions
  pub merging_both : (a b a' b' : Cursor) (met : ℕ) (s s' : State) (k : ℕ) → y.bases ≤ y.qualities → z.bases ≤ z.qualities → Merging a b met s → k ≤ a.left → k ≤ b.left
      → a.position.0 ≡ b.position.0 → Settled cig₁ (advanced a k) a' → Settled cig₂ (advanced b k) b' → s' ≡ steps (job v y z) (row a.offset.0 b.offset.0 k) s
      → Merging a' b' (met + k) s'
  merging_both a b a' b' met s s' k ly lz m ha hb er sa sb e =
      let up : a.position.0 + k ≤ a'.position.0 = sa.kept.up in
      let s1 = side_next cig₁ o₁ a.position.0 (a.position.0 + k) y.count e₁ k a a' m.side₁ ha (omega arith) (omega arith) sa in
      let s2 = side_next cig₂ o₂ a.position.0 (a.position.0 + k) z.count e₂ k b b' m.side₂ hb (omega arith) (omega arith) sb in
      let w : List (ℕ × ℕ) = row a.offset.0 b.offset.0 k in
      let kept = steps_front (job v y z) w s ly lz in
      let long = steps_length (job v y z) w s in
      let same : ahead (a.position.0 + k) ≡ ahead a'.position.0 =
      skip_to o₁ o₂ e₁ (a.position.0 + k) a'.position.0 up (λ u lo hi. inl (s1.ahead u lo ∙ cur_below cig₁ a' u hi)) in
      let front = row_ahead a b met s k m ha hb er in
      record {
        side₁ = side_later cig₁ o₁ (a.position.0 + k) a'.position.0 y.count e₁ a' s1 up;
        side₂ = side_later cig₂ o₂ (a.position.0 + k) a'.position.0 z.count e₂ b' s2 up;
        first = ap (λ (x : State). length x.first) e ∙ (long.0 ∙ m.first);
        second = ap (λ (x : State). length x.second) e ∙ (long.1 ∙ m.second);
        front₁ = ap (λ (x : State). take y.bases x.first) e ∙ (kept.0 ∙ m.front₁);
        front₂ = ap (λ (x : State). take z.bases x.second) e ∙ (kept.1 ∙ m.front₂);
        room =
            rw e
            (steps_room (job v y z) w s (2 * (y.count - a'.offset.0))
            (room_less s.stats _ _ (omega (arith, row_length a.offset.0 b.offset.0 k, sa.kept.on, m.side₁.reads)) m.room));
        few = omega (arith, sa.kept.on, m.few);
        left =
            later (a.position.0 + k) a'.position.0 (met + k) s' same
            (ap (λ (x : State). steps (job v y z) (ahead (a.position.0 + k)) x) e
            ∙ (sym (steps_append (job v y z) w (ahead (a.position.0 + k)) s)
            ∙ (ap (λ (l : List (ℕ × ℕ)). steps (job v y z) l s) (sym front) ∙ m.left)));
        counted =
            omega (arith, ap length same, simp length-append at (ap length front), row_length a.offset.0 b.offset.0 k, m.counted);
      }

  -- nothing is left of the first, or of the second: all is done
  pub record Done (met : ℕ) (s : State) : Type 0 where
    pub treated : s ≡ merged (job v y z) r t s₀
    pub counted : met ≡ length (shared y z r t s₀.first s₀.second)

  done : (p met : ℕ) (s : State) → ahead p ≡ [] → steps (job v y z) (ahead p) s ≡ merged (job v y z) r t s₀ → met + length (ahead p) ≡ length (shared y z r t s₀.first s₀.second) → Done met s
  unfolding steps
  done p met s e h k =
      record { treated = sym (ap (λ (l : List (ℕ × ℕ)). steps (job v y z) l s) e) ∙ h; counted = omega (arith, ap length e) }

  pub merging_end₁ : (a b : Cursor) (met : ℕ) (s : State) → Merging a b met s → a.left ≡ 0 → Done met s
  merging_end₁ a b met s m h =
      done a.position.0 met s (none_left o₁ o₂ a.position.0 _ (λ u lo. inl (m.side₁.ahead u lo ∙ cur_done cig₁ a u h (m.side₁.done h)))) m.left m.counted

  pub merging_end₂ : (a b : Cursor) (met : ℕ) (s : State) → Merging a b met s → b.left ≡ 0 → Done met s
  merging_end₂ a b met s m h =
      done a.position.0 met s (none_left o₁ o₂ a.position.0 _ (λ u lo. inr (m.side₂.ahead u lo ∙ cur_done cig₂ b u h (m.side₂.done h)))) m.left m.counted

  -- all is done, and nothing was met
  pub none_met : (s : State) → Done 0 s → false ≡ ltb 0 (length (shared y z r t s₀.first s₀.second))
  none_met s d = sym (le-ltb 0 (length (shared y z r t s₀.first s₀.second)) (omega (arith, d.counted)))

  -- what the calls in the loop ask
  pub ready₁ : (a : Cursor) (l : List ℕ) (p d : ℕ) → Side cig₁ o₁ p y.count e₁ a → length l ≡ length s₀.first → take y.bases l ≡ cig₁ → Lies y (length s₀.first) → Walked y r s₀.first → d ≤ a.left
      → (y.bases ≤ length l) × Stands (take y.bases l) a × (d ≤ a.left)
  ready₁ a l p d s e f h w k =
      (omega (arith, h.bases, h.qualities), rw f (side_stands cig₁ o₁ p y.count e₁ a s w.small w.refs), k)

  pub ready₂ : (b : Cursor) (l : List ℕ) (p d : ℕ) → Side cig₂ o₂ p z.count e₂ b → length l ≡ length s₀.second → take z.bases l ≡ cig₂ → Lies z (length s₀.second) → Walked z t s₀.second → d ≤ b.left
      → (z.bases ≤ length l) × Stands (take z.bases l) b × (d ≤ b.left)
  ready₂ b l p d s e f h w k =
      (omega (arith, h.bases, h.qualities), rw f (side_stands cig₂ o₂ p z.count e₂ b s w.small w.refs), k)

  pub record Fronts (s : State) : Type 0 where
    pub first : length s.first ≡ length s₀.first
    pub second : length s.second ≡ length s₀.second
    pub front₁ : take y.bases s.first ≡ cig₁
    pub front₂ : take z.bases s.second ≡ cig₂

  pub ran : (a b : Cursor) (met : ℕ) (s s' : State) (w : List (ℕ × ℕ)) → y.bases ≤ y.qualities → z.bases ≤ z.qualities → Merging a b met s → s' ≡ steps (job v y z) w s → Fronts s'
  ran a b met s s' w ly lz m e =
      let kept = steps_front (job v y z) w s ly lz in
      let long = steps_length (job v y z) w s in
      record {
        first = ap (λ (x : State). length x.first) e ∙ (long.0 ∙ m.first);
        second = ap (λ (x : State). length x.second) e ∙ (long.1 ∙ m.second);
        front₁ = ap (λ (x : State). take y.bases x.first) e ∙ (kept.0 ∙ m.front₁);
        front₂ = ap (λ (x : State). take z.bases x.second) e ∙ (kept.1 ∙ m.front₂);
      }

  pub less₁ : (a a' : Cursor) (p d : ℕ) → Side cig₁ o₁ p y.count e₁ a → 0 < d → d ≤ a.left → Settled cig₁ (advanced a d) a' → e₁ - a'.position.0 < e₁ - a.position.0
  less₁ a a' p d s h k n = omega (arith, s.refs, n.kept.up)

pub settled_at : {l m : List ℕ} {c d : Cursor} → l ≡ m → Settled l c d → Settled m c d
settled_at {c = c} {d = d} e s = subst (λ (x : List ℕ). Settled x c d) e s

pub start_stands : (y : Layout) (r : RefPos) (l : List ℕ) → Lies y (length l) → Walked y r l → (y.bases ≤ length l) × Stands (take y.bases l) (cursor y.operations 0 r.0 0)
start_stands y r l h w =
    let e : y.bases ≤ length l = omega (arith, h.bases, h.qualities) in
    (e, record { within = omega (arith, length-take-le y.bases l e, h.operations); reads = omega (arith, w.reads, w.small); refs = omega (arith, w.refs) })
