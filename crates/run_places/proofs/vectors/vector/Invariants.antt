use lib.ListN.{length}
use Rattle.cell_meaning.specs.Links.{table_of}
use Rattle.run_places.specs.Promises.Vectors.{vector_values}
use Rattle.run_places.proofs.VectorLaws.{Putting, vector, Reading}
use Rattle.run_places.proofs.vectors.vector.Given as goal

abbrev pub invariant-loop-k : goal.invariant-loop-k
invariant-loop-k l =
    Putting (vector (table_of l.words l.n l.dims) l.dims l.at (vector_values l.given (length l.given))) l.place l.k
    × Reading (table_of l.words l.n l.dims) l.dims l.at (vector_values l.given (length l.given)) l.here l.k
