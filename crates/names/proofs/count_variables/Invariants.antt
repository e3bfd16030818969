use mathlib.Core.Path.{◌≡◌}
use Prim.Native.Nat.{◌≤◌}
use Rattle.names.specs.Names.{variables_in}
use Rattle.names.proofs.count_variables.Given as goal

abbrev pub invariant-loop-i : goal.invariant-loop-i
invariant-loop-i l = (l.k ≡ variables_in l.names l.i) × (l.k ≤ l.i) × (l.i ≤ l.n) × (l.n ≤ 256)
