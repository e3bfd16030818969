use mathlib.Core.List.{map}
use Rattle.automaton.specs.Shape.{width}
use Rattle.run_meaning.specs.Promises.Fitting.{bounds_of}
use Rattle.run_meaning.proofs.Theorems.Cutting.{Counting}
use Rattle.run_marking.proofs.ways.box_count.Given as goal

abbrev pub invariant-loop-k : goal.invariant-loop-k
invariant-loop-k l = Counting (map width (bounds_of l.bounds l.dims)) l.total l.k
