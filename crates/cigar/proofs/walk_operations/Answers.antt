use Prim.Native.Nat.{◌+◌, ◌*◌}
use mathlib.Core.Path.{◌≡◌}
use native.Mathlib.Omega.{arith}
use Rattle.cigar.proofs.JudgeLaws.{walking_end, walking_code, walking_turn}
use Rattle.cigar.proofs.walk_operations.Goals as goal

pub returns-then-unknown : goal.returns-then-unknown
returns-then-unknown c =
    let args = c.args in
    let loop = c.loop-i in
    walking_code args.s.now args.from args.end c.requires.1 (args.from + 4 * loop.i) loop.read loop.reference loop.invariant.1
    c.operation_at-op.result (omega arith) c.operation_at-op.ensures.0 loop.i (omega arith) (c.unknown.ensures.0 c.if-unknown.true)

pub loop-i-preserved : goal.loop-i-preserved
loop-i-preserved c =
    let args = c.args in
    let loop = c.loop-i in
    let e : args.from + 4 * (loop.i + 1) ≡ args.from + 4 * loop.i + 4 = omega arith in (
      omega arith,
      rw e
          (walking_turn args.s.now args.from args.end c.requires.1 (args.from + 4 * loop.i) loop.read loop.reference loop.invariant.1
          c.operation_at-op.result (omega arith) c.operation_at-op.ensures.0 c.read_len-read.result
          c.ref_len-reference.result c.operation_at-op.ensures.1 (c.unknown.ensures.1 c.if-unknown.false)
          c.read_len-read.ensures c.ref_len-reference.ensures),
    )

pub returns : goal.returns
returns c =
    let args = c.args in
    let loop = c.loop-i in
    walking_end args.s.now args.from args.end c.requires.1 (args.from + 4 * loop.i) loop.read loop.reference loop.invariant.1 (omega arith)
