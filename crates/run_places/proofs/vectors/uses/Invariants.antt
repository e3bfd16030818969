use Rattle.cell_meaning.specs.Links.{table_of}
use Rattle.run_places.proofs.ElementLaws.{Looking}
use Rattle.run_places.proofs.vectors.uses.Given as goal

abbrev pub invariant-loop : goal.invariant-loop
invariant-loop l = Looking (table_of l.words l.n l.dims) l.which l.dims l.at l.here l.counter
