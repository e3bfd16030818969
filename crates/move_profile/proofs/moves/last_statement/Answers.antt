use Rattle.move_profile.proofs.MoveLaws.{Lastings}
use Rattle.move_profile.proofs.moves.last_statement.Goals as goal

pub loop-last-smaller : goal.loop-last-smaller
loop-last-smaller c = search Lastings

pub loop-last-preserved : goal.loop-last-preserved
loop-last-preserved c = search Lastings

pub returns : goal.returns
returns c = search Lastings
