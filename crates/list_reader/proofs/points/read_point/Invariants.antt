use Rattle.list_reader.proofs.PointLaws.{Placing}
use Rattle.list_reader.proofs.points.read_point.Given as goal

abbrev pub invariant-loop-k : goal.invariant-loop-k
invariant-loop-k l = Placing l.sizes l.line l.outside l.cell l.here l.k
