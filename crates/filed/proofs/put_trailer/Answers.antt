-- `filed::put_trailer` meets its contract. Assumes nothing.
use Prim.Native.Nat.{ℕ, ◌+◌}
use mathlib.Core.Path.{ap, ◌∙◌}
use mathlib.Core.List.{List}
use Rattle.group_frames.specs.Part.{splice}
use Rattle.filed_trailer.specs.Trailer.{stamped}
use Rattle.filed.proofs.put_trailer.Goals as goal

pub returns : goal.returns
returns c =
    let args = c.args in
    ap (splice args.out.now args.p (args.p + 50))
    (c.copy_from_slice-2.ensures.after ∙ c.stamp.ensures ∙ ap
    (λ (x : List ℕ). stamped x args.growth) c.copy_from_slice.ensures.after)
