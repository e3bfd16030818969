use Rattle.cell_meaning.specs.Evaluation.{offsets}
use Rattle.cell_meaning.specs.Promises.Stands.{indices_in}
use Rattle.cell_meaning.specs.Links.{table_of}
use Rattle.cell_meaning.specs.Places.{choice_at}
use Rattle.run_places.specs.Promises.Vectors.{open_loops}
use Rattle.run_places.proofs.VectorLaws.{Filling}
use Rattle.run_places.proofs.vectors.set_vectors.Given as goal

abbrev pub invariant-loop-e : goal.invariant-loop-e
invariant-loop-e l = Filling l.dims (λ e. offsets l.dims (choice_at (open_loops l.loops) e) (indices_in (table_of l.words l.n l.dims) l.dims l.at)) l.list l.e
