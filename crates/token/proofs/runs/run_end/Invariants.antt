use Prim.Native.Nat.{◌-◌}
use lib.ListN.{length}
use Rattle.token.specs.Promises.Promises.{run_test}
use Rattle.token.proofs.Extents.{Running}
use Rattle.token.proofs.runs.run_end.Given as goal

abbrev pub invariant-loop-end : goal.invariant-loop-end
invariant-loop-end l = Running (run_test l.run) l.source l.at l.end

abbrev pub decreases-loop-end : goal.decreases-loop-end
decreases-loop-end l = length l.source - l.end
