-- `filed_writing::Rooms::hold` meets its contract. Assumes nothing.
use Rattle.filed_writing.proofs.PlaceLaws.{in_room}
use Rattle.filed_writing.proofs.Rooms.hold.Goals as goal

pub treat_copies-added-requires : goal.treat_copies-added-requires
treat_copies-added-requires c =
    let pair = c.requires.1 in (
      rw (c.record-first.ensures, c.record-last.ensures) pair.cleared,
      rw c.record-first.ensures (in_room _ _ _ c.requires.0 _ pair.first _ (c.requires.2.0 _ pair.first)),
      rw c.record-last.ensures (in_room _ _ _ c.requires.0 _ pair.last _ (c.requires.2.1 _ pair.last)),
    )
