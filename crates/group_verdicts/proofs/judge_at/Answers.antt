-- `group_verdicts::judge_at` meets its contract. Assumes nothing.
use Rattle.group_verdicts.proofs.judge_at.Goals as goal

pub record-first-requires : goal.record-first-requires
record-first-requires c =
    (c.requires.0, c.requires.1)

pub record-second-requires : goal.record-second-requires
record-second-requires c =
    (c.requires.0, c.requires.2)

pub judge_pair-requires : goal.judge_pair-requires
judge_pair-requires c =
    rw (c.record-first.ensures, c.record-second.ensures)
    (c.requires.0.sound c.args.i c.requires.1, c.requires.0.sound c.args.j c.requires.2)

pub returns : goal.returns
returns c =
    rw (c.record-first.ensures, c.record-second.ensures) at c.judge_pair.ensures
