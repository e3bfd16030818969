use Prim.Native.Nat.{◌≤◌}
use lib.ListN.{length}
use Rattle.token.proofs.Literals.{Summing}
use Rattle.token.proofs.runs.literal_value.Given as goal

abbrev pub invariant-loop-i : goal.invariant-loop-i
invariant-loop-i l = Summing l.source l.at l.end l.i l.value × (l.end ≤ length l.source)
