use mathlib.Core.List.{map}
use Rattle.cell_meaning.specs.Places.{span}
use Rattle.run_meaning.proofs.Theorems.Cutting.{Counting}
use Rattle.run_places.specs.Promises.Vectors.{open_loops}
use Rattle.run_places.proofs.vectors.choices.Given as goal

abbrev pub invariant-loop-d : goal.invariant-loop-d
invariant-loop-d l = Counting (map span (open_loops l.loops)) l.total l.d
