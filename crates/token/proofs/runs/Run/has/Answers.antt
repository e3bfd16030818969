use Rattle.token.proofs.Extents.{Members}
use Rattle.token.proofs.runs.Run.has.Goals as goal

pub returns-in-Underscore : goal.returns-in-Underscore
returns-in-Underscore c = search Members

pub returns-in_default : goal.returns-in_default
returns-in_default c = search Members
