use Prim.Native.Nat.{◌≤◌}
use Rattle.read_declaration.proofs.Writing.{Written}
use Rattle.read_declaration.proofs.write_ranges.Given as goal

abbrev pub invariant-loop-k : goal.invariant-loop-k
invariant-loop-k l = Written l.initial.words l.i l.k l.low l.high l.words × (l.k ≤ l.n)
