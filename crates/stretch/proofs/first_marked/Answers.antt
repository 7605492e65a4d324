-- `stretch::first_marked` meets its contract. Assumes nothing.
use Rattle.stretch.proofs.HalfLaws.{first_none, first_high, first_low}
use Rattle.stretch.proofs.first_marked.Goals as goal

pub returns-then-x-eq0 : goal.returns-then-x-eq0
returns-then-x-eq0 c = first_none c.args.x c.if-x-eq0.true

pub returns-then-x-j-ne0 : goal.returns-then-x-j-ne0
returns-then-x-j-ne0 c = first_high c.args.x c.first_byte-j.result c.first_byte-j.ensures c.if-x-j-ne0.true

pub returns-else-x-j-ne0 : goal.returns-else-x-j-ne0
returns-else-x-j-ne0 c = first_low c.args.x c.first_byte-j.result c.first_byte-j.ensures c.if-x-j-ne0.false
