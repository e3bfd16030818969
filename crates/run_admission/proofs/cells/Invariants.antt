use mathlib.Core.Path.{◌≡◌}
use Prim.Native.Nat.{◌≤◌}
use lib.ListN.{drop}
use Rattle.run_admission.specs.Promises.Admitting.{cells_of}
use Rattle.run_admission.proofs.cells.Given as goal

abbrev pub invariant-loop-k : goal.invariant-loop-k
invariant-loop-k l = (l.total ≡ cells_of (drop l.k l.sizes)) × (l.total ≤ 1048576)
