use Rattle.move_profile.proofs.MoveLaws.{Passings}
use Rattle.move_profile.proofs.moves.past_constants.Goals as goal

pub loop-here-smaller : goal.loop-here-smaller
loop-here-smaller c = search Passings

pub loop-here-preserved : goal.loop-here-preserved
loop-here-preserved c = search Passings

pub returns : goal.returns
returns c = search Passings
