use Prim.Native.Nat.{◌-◌}
use lib.ListN.{length}
use Rattle.token.proofs.Blanks.{Skipping}
use Rattle.token.proofs.runs.comment_end.Given as goal

abbrev pub invariant-loop-end : goal.invariant-loop-end
invariant-loop-end l = Skipping l.source l.at l.end

abbrev pub decreases-loop-end : goal.decreases-loop-end
decreases-loop-end l = length l.source - l.end
