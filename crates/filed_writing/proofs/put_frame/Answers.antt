-- `filed_writing::put_frame` meets its contract. Assumes nothing.
use mathlib.Core.Path.{ap₂}
use mathlib.Core.List.{List}
use Prim.Native.Nat.{ℕ}
use lib.ListN.{get_or}
use Rattle.group_frames.specs.Part.{splice}
use Rattle.group_applying.specs.Within.{start_in, end_in}
use Rattle.filed_writing.proofs.put_frame.Goals as goal

pub returns : goal.returns
returns c =
    let begins = c.args.frames.begins.now in
    let start = start_in begins c.args.k in
    ap₂ (λ (size x : List ℕ). splice (splice c.args.out.now (get_or begins c.args.k 0) start size) start (end_in begins c.args.k) x) c.copy_from_slice.ensures.after c.copy_from_slice-2.ensures.after
