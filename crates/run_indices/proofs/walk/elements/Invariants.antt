use Rattle.cell_meaning.specs.Links.{table_of}
use Rattle.run_places.specs.Promises.Vectors.{open_loops}
use Rattle.run_indices.proofs.ElementLaws.{Steps}
use Rattle.run_indices.proofs.walk.elements.Given as goal

abbrev pub invariant-loop-k : goal.invariant-loop-k
invariant-loop-k l = Steps (table_of l.words l.n l.dims) (open_loops l.loops) l.sizes l.dims l.initial.now l.at l.now l.here l.k
