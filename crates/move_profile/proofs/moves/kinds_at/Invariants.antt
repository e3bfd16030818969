use Rattle.move_profile.proofs.MoveLaws.{Alike}
use Rattle.move_profile.proofs.moves.kinds_at.Given as goal

abbrev pub invariant-loop-i : goal.invariant-loop-i
invariant-loop-i l = Alike l.words l.n l.at l.kinds l.i
