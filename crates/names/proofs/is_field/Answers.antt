use Rattle.names.proofs.Searching.{Searches}
use Rattle.names.proofs.is_field.Goals as goal

pub returns-then-e-eq-FIELD : goal.returns-then-e-eq-FIELD
returns-then-e-eq-FIELD c = search Searches

pub returns-else-e-eq-FIELD : goal.returns-else-e-eq-FIELD
returns-else-e-eq-FIELD c = search Searches
