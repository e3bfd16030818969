use Rattle.token.proofs.Blanks.{Passes}
use Rattle.token.proofs.runs.blanks_end.Goals as goal

pub returns-in_default : goal.returns-in_default
returns-in_default c = search Passes
