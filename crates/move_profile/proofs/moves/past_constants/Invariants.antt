use Prim.Native.Nat.{◌-◌}
use Rattle.move_profile.proofs.MoveLaws.{Passing}
use Rattle.move_profile.proofs.moves.past_constants.Given as goal

abbrev pub invariant-loop-here : goal.invariant-loop-here
invariant-loop-here l = Passing l.words l.n l.at l.here

abbrev pub decreases-loop-here : goal.decreases-loop-here
decreases-loop-here l = l.n - l.here
