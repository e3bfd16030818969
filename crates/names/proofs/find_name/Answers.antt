use Rattle.names.proofs.Searching.{Searches}
use Rattle.names.proofs.find_name.Goals as goal

pub loop-i-init : goal.loop-i-init
loop-i-init c = search Searches

pub returns-then-matches : goal.returns-then-matches
returns-then-matches c = search Searches

pub loop-i-preserved : goal.loop-i-preserved
loop-i-preserved c = search Searches

pub returns : goal.returns
returns c = search Searches
