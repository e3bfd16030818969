use Rattle.run_marked_cells.proofs.PointLaws.{Carried}
use Rattle.run_marked_cells.proofs.points.advance.Given as goal

abbrev pub invariant-loop-k : goal.invariant-loop-k
invariant-loop-k l = Carried l.sizes l.initial.point l.k l.point
