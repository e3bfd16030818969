use Rattle.token.proofs.Extents.{Walk}
use Rattle.token.proofs.runs.run_end.Goals as goal

pub returns-else-has : goal.returns-else-has
returns-else-has c = search Walk
