use Rattle.names.proofs.Searching.{Searches}
use Rattle.names.proofs.in_space.Goals as goal

pub returns : goal.returns
returns c = search Searches
