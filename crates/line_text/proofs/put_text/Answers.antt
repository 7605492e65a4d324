-- `line_text::put_text` meets its contract. Assumes nothing.
use Rattle.line_text.proofs.PutLaws.{put_whole}
use Rattle.line_text.proofs.put_text.Goals as goal

pub returns : goal.returns
returns c =
    let args = c.args in
    rw c.copy_from_slice.ensures.after (put_whole args.out.now args.text.now args.at c.requires)
