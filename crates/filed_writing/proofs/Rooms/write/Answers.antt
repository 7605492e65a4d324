-- `filed_writing::Rooms::write` meets its contract. Assumes nothing.
use Rattle.std.proofs.Common.{rules}
use mathlib.Core.Path.{refl, ap}
use native.Mathlib.Omega.{arith}
use lib.ListN.{length}
use Rattle.filed_writing.proofs.PlaceLaws.{record_long, put_fits, put_front, put_behind, whole}
use Rattle.filed_writing.proofs.ChosenLaws.{alone_due, alone_adds, first_due, first_adds, last_due, last_adds}
use Rattle.filed_writing.proofs.Rooms.write.Goals as goal

pub put_frame-requires : goal.put_frame-requires
put_frame-requires c =
    let below = c.requires.1.below in
    put_fits _ _ _ c.requires.0 _ below _ _ (omega (arith, ap length c.record.ensures, record_long _ _ _ c.requires.0 _ below)) c.requires.4.1

pub returns-in_default : goal.returns-in_default
returns-in_default c =
    let t = c.requires.0 in
    let h = c.requires.1 in
    let out = c.requires.4 in
    let put = c.put_frame.ensures in
    let due = whole _ _ _ t _ h.below _ _ c.record.ensures (alone_due c.args.w _ _ t.fit _ _ h c.in_default.is) in (
      record {
        front = put_front _ _ _ t _ h.below c.args.w _ _ _ out.0 out.1 put due;
        behind = put_behind _ _ _ t _ h.below c.args.w _ _ _ out.0 out.1 put due;
        adds = alone_adds c.args.w _ _ t.fit _ _ h c.in_default.is _ c.no_pair.ensures;
      },
      c.requires.3,
      (refl, refl),
    )

pub hold-added-requires : goal.hold-added-requires
hold-added-requires c = (c.requires.0, c.requires.1.pair _ c.in-Some.is, c.requires.2, c.requires.3)

pub put_frame-requires-then-pair-k : goal.put_frame-requires-then-pair-k
put_frame-requires-then-pair-k c =
    let below = c.requires.1.below in
    put_fits _ _ _ c.requires.0 _ below _ _ (omega (arith, ap length c.room.ensures, c.hold-added.ensures.2.0, c.requires.2.0 _ below)) c.requires.4.1

pub returns-then-pair-k : goal.returns-then-pair-k
returns-then-pair-k c =
    let t = c.requires.0 in
    let h = c.requires.1 in
    let out = c.requires.4 in
    let put = rw c.room.ensures at c.put_frame-then-pair-k.ensures in
    let held = c.hold-added.ensures in
    let due = first_due c.args.w _ _ t.fit _ _ h _ c.in-Some.is _ _ _ held.0 c.if-pair-k.true in (
      record {
        front = put_front _ _ _ t _ h.below c.args.w _ _ _ out.0 out.1 put due;
        behind = put_behind _ _ _ t _ h.below c.args.w _ _ _ out.0 out.1 put due;
        adds = first_adds c.args.w _ _ t.fit _ _ h _ c.in-Some.is _ _ _ held.0 c.if-pair-k.true;
      },
      held.1,
      held.2,
    )

pub put_frame-requires-2 : goal.put_frame-requires-2
put_frame-requires-2 c =
    let below = c.requires.1.below in
    put_fits _ _ _ c.requires.0 _ below _ _ (search (rules, c.hold-added.ensures.2, c.requires.2.0 _ below, c.requires.2.1 _ below)) c.requires.4.1

pub returns : goal.returns
returns c =
    let t = c.requires.0 in
    let h = c.requires.1 in
    let out = c.requires.4 in
    let put = rw c.room-2.ensures at c.put_frame-2.ensures in
    let held = c.hold-added.ensures in
    let due = last_due c.args.w _ _ t.fit _ _ h _ c.in-Some.is _ _ _ held.0 c.if-pair-k.false in (
      record {
        front = put_front _ _ _ t _ h.below c.args.w _ _ _ out.0 out.1 put due;
        behind = put_behind _ _ _ t _ h.below c.args.w _ _ _ out.0 out.1 put due;
        adds = last_adds c.args.w _ _ t.fit _ _ h _ c.in-Some.is _ _ _ held.0 c.if-pair-k.false _ c.no_pair-2.ensures;
      },
      held.1,
      held.2,
    )
