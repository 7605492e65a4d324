-- `stats::put_counts` meets its contract. Assumes nothing.
use Prim.Native.Nat.{ℕ, ◌+◌}
use mathlib.Core.List.{List}
use mathlib.Core.Path.{ap, ◌∙◌}
use Rattle.fields.specs.Number.{put}
use Rattle.stats.proofs.put_counts.Goals as goal

pub returns : goal.returns
returns c =
    let args = c.args in
    c.put_u64-4.ensures ∙ ap (λ (x : List ℕ). put 8 x (args.at + 24) args.g.corrected)
    (c.put_u64-3.ensures ∙ ap (λ (x : List ℕ). put 8 x (args.at + 16) args.g.disagreeing)
    (c.put_u64-2.ensures ∙ ap (λ (x : List ℕ). put 8 x (args.at + 8) args.g.agreeing)
    c.put_u64.ensures))
