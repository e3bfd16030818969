use Rattle.run_marked_cells.proofs.PointLaws.{Walked}
use Rattle.run_marked_cells.proofs.points.set_point.Given as goal

abbrev pub invariant-loop-k : goal.invariant-loop-k
invariant-loop-k l = Walked l.sizes l.cell l.k l.rest l.point
