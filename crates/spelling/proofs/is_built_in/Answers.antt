use Rattle.spelling.proofs.Parting.{compared}
use Rattle.spelling.proofs.is_built_in.Goals as goal

pub returns : goal.returns
returns c = search compared
