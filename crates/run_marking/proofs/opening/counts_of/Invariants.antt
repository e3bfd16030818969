use Rattle.run_marking.proofs.PlaceLaws.{Counting}
use Rattle.run_marking.proofs.opening.counts_of.Given as goal

abbrev pub invariant-loop-k : goal.invariant-loop-k
invariant-loop-k l = Counting l.sizes l.bounds l.counts l.k
