-- `pair_merge::meet` meets its contract: it answers whether both cursors have a base left where they stand. Assumes nothing.
use Rattle.pair_merge.proofs.MergeLaws.{merging_skipped, poised, start_stands}
use Rattle.pair_merge.proofs.MeetLaws.{any, unread, meeting_start, met_if, met_unless}
use Rattle.pair_merge.proofs.meet.Goals as goal

pub begin-begun-requires : goal.begin-begun-requires
begin-begun-requires c =
    let args = c.args in
    start_stands args.y args.p args.first.now c.requires.0 c.requires.2

pub begin-mate-requires : goal.begin-mate-requires
begin-mate-requires c =
    let args = c.args in
    start_stands args.z args.q args.second.now c.requires.1 c.requires.3

pub meeting-requires : goal.meeting-requires
meeting-requires c =
    let args = c.args in
    let f = args.first.now in
    let g = args.second.now in
    let start = meeting_start args.y args.z args.p args.q f g c.begin-begun.result c.begin-mate.result c.requires.2 c.requires.3 c.begin-begun.ensures c.begin-mate.ensures in
    poised any args.y args.z args.p args.q (unread f g) c.begin-begun.result c.begin-mate.result 0 (unread f g) start
    c.requires.0 c.requires.1 c.requires.2 c.requires.3

pub returns-then-a-ne0 : goal.returns-then-a-ne0
returns-then-a-ne0 c =
    let args = c.args in
    let f = args.first.now in
    let g = args.second.now in
    let start = meeting_start args.y args.z args.p args.q f g c.begin-begun.result c.begin-mate.result c.requires.2 c.requires.3 c.begin-begun.ensures c.begin-mate.ensures in
    let met = merging_skipped any args.y args.z args.p args.q (unread f g) c.begin-begun.result c.begin-mate.result c.meeting.result.0 c.meeting.result.1 0 (unread f g)
    start c.meeting.ensures.skipped in
    met_if args.y args.z args.p args.q f g c.meeting.result.0 c.meeting.result.1 met c.meeting.ensures.level c.if-a-ne0.true

pub returns-else-a-ne0 : goal.returns-else-a-ne0
returns-else-a-ne0 c =
    let args = c.args in
    let f = args.first.now in
    let g = args.second.now in
    let start = meeting_start args.y args.z args.p args.q f g c.begin-begun.result c.begin-mate.result c.requires.2 c.requires.3 c.begin-begun.ensures c.begin-mate.ensures in
    let met = merging_skipped any args.y args.z args.p args.q (unread f g) c.begin-begun.result c.begin-mate.result c.meeting.result.0 c.meeting.result.1 0 (unread f g)
    start c.meeting.ensures.skipped in
    met_unless args.y args.z args.p args.q f g c.meeting.result.0 c.meeting.result.1 met c.if-a-ne0.false
