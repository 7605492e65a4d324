use mathlib.Core.Path.{ap, ◌∙◌}
use borrow.Author.Count.{below_none}
use Rattle.group_mates.specs.Table.{key_in}
use Rattle.group_mates.proofs.TableLaws.{keys_of, front_long, entered_next, entered_keys}
use native.Mathlib.Omega.{arith}
use Rattle.group_mates.proofs.enter_keys.Goals as goal

pub loop-k-init : goal.loop-k-init
loop-k-init c = below_none _

pub record-requires : goal.record-requires
record-requires c =
    (c.requires.0, omega (arith, c.loop-k-test.true, front_long c.args.key.now c.args.frames.count c.requires.1 c.requires.0.few))

pub key_of-requires : goal.key_of-requires
key_of-requires c =
    rw c.record.ensures (c.requires.0.sound c.loop-k.k (omega (arith, c.loop-k-test.true, front_long c.args.key.now c.args.frames.count c.requires.1 c.requires.0.few)))

pub loop-k-preserved : goal.loop-k-preserved
loop-k-preserved c =
    let loop = c.loop-k in
    entered_next (keys_of c.args.frames.bytes.now) loop.slot-items loop.k c.key_of.result loop.invariant (omega (arith, c.loop-k-test.true, loop.auto.slot-items))
    (c.key_of.ensures ∙ ap key_in c.record.ensures)

pub returns : goal.returns
returns c =
    let args = c.args in
    let loop = c.loop-k in
    entered_keys args.key.now loop.slot-items args.frames.count loop.k c.requires.1 c.requires.0.few loop.auto.slot-items c.loop-k-test.false args.frames.bytes.now loop.invariant
