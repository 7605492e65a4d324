-- `stretch::agreeing` meets its contract. The loop keeps: the positions of the words before word k agree, and they are an even number. Assumes nothing.
use Prim.Native.Nat.{◌+◌, ◌*◌}
use Rattle.stretch.proofs.WordLaws.{Scanned}
use Rattle.stretch.proofs.agreeing.Given as goal

abbrev pub invariant-loop-k : goal.invariant-loop-k
invariant-loop-k l = Scanned l.first l.second (2 * l.at1 + l.odd1) (2 * l.at2 + l.odd2) (16 * l.k)
