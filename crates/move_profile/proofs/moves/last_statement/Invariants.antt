use Prim.Native.Nat.{◌-◌}
use Rattle.move_profile.proofs.MoveLaws.{Lasting}
use Rattle.move_profile.proofs.moves.last_statement.Given as goal

abbrev pub invariant-loop-last : goal.invariant-loop-last
invariant-loop-last l = Lasting l.words l.n l.at l.last l.here

abbrev pub decreases-loop-last : goal.decreases-loop-last
decreases-loop-last l = l.n - l.here
