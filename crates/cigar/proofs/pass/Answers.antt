-- `cigar::pass` meets its contract. Assumes nothing.
use Rattle.cigar.proofs.CursorLaws.{advanced_stands}
use lib.ListN.{take}
use Rattle.cigar.proofs.pass.Goals as goal

pub settle-requires : goal.settle-requires
settle-requires c =
    let a = c.args in
    let p = c.requires in
    rw c.advance.ensures (p.0, advanced_stands (take a.end a.s.now) a.c a.d p.1 p.2)

pub returns : goal.returns
returns c = rw c.advance.ensures at c.settle.ensures
