use mathlib.Core.Path.{◌≡◌, ◌∙◌}
use native.Mathlib.Numerals.{add-one}
use borrow.Author.Count.{below_none}
use Rattle.group_mates.specs.Register.{mates_of}
use Rattle.group_mates.proofs.TableLaws.{front_long, entered_next, entered_mates}
use native.Mathlib.Omega.{arith}
use Rattle.group_mates.proofs.Search.enter_mates.Goals as goal
use Rattle.group_mates.proofs.Search.enter_mates.Goals.{in-Some, in-None}

pub loop-i-init : goal.loop-i-init
loop-i-init c = below_none _

pub mate_of-requires : goal.mate_of-requires
mate_of-requires c =
    let search = c.args.self.now in
    omega (arith, c.loop-i-test.true, front_long c.args.mate.now search.frames.count c.requires search.tabled.few)

pub loop-i-preserved : goal.loop-i-preserved
loop-i-preserved c =
    let search = c.args.self.now in
    let loop = c.loop-i in
    let e : c.match-mate_of.slot ≡ mates_of search.frames.bytes.now search.frames.count loop.i =
    elim c.match-mate_of.branch [
      | in-Some w ↦ w.slot-is ∙ add-one w.in-Some.j ∙ w.in-Some.ensures.0
      | in-None w ↦ w.slot-is ∙ w.in-None.ensures.0
    ] in
    entered_next (mates_of search.frames.bytes.now search.frames.count) loop.slot-items loop.i c.match-mate_of.slot loop.invariant (omega (arith, c.loop-i-test.true, loop.auto.slot-items)) e

pub returns : goal.returns
returns c =
    let search = c.args.self.now in
    let loop = c.loop-i in
    entered_mates c.args.mate.now loop.slot-items search.frames.count loop.i c.requires search.tabled.few loop.auto.slot-items c.loop-i-test.false search.frames.bytes.now loop.invariant
