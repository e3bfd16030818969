use Rattle.cell_meaning.specs.Promises.Stands.{indices_in}
use Rattle.cell_meaning.specs.Links.{table_of}
use Rattle.run_places.proofs.LoopLaws.{Using}
use Rattle.run_places.proofs.vectors.used.Given as goal

abbrev pub invariant-loop-d : goal.invariant-loop-d
invariant-loop-d l = Using l.loops (indices_in (table_of l.words l.n l.dims) l.dims l.at) l.lows l.highs l.d
