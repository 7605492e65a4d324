-- `stretch_qualities::treat_block` meets its contract: the block stored is n positions, and what stands before them. Assumes nothing.
use Prim.Native.Nat.{◌-◌}
use mathlib.Core.Path.{◌≡◌}
use native.Mathlib.Omega.{arith}
use Rattle.stretch_qualities.proofs.RowLaws.{block_row}
use Rattle.stretch_qualities.proofs.treat_block.Goals as goal

pub returns : goal.returns
returns g c =
    let args = c.args in
    let left : 32 - (32 - args.n) ≡ args.n = omega (arith, c.requires.2) in
    let block = c.filled-block in
    rw left at (block_row args.w args.first.now args.p args.second.now args.q (32 - args.n) block.result (omega arith) block.ensures _ _ c.from.result c.store.ensures c.store-2.ensures c.from.ensures)
