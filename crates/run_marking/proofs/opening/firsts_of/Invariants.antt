use Rattle.run_marking.proofs.PlaceLaws.{Firsting}
use Rattle.run_marking.proofs.opening.firsts_of.Given as goal

abbrev pub invariant-loop-k : goal.invariant-loop-k
invariant-loop-k l = Firsting l.sizes l.bounds l.at l.firsts l.k
