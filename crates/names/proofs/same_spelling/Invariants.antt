use Rattle.names.proofs.Spelling.{Alike}
use Rattle.names.proofs.same_spelling.Given as goal

abbrev pub invariant-loop-k : goal.invariant-loop-k
invariant-loop-k l = Alike l.source l.a l.b l.n l.k
