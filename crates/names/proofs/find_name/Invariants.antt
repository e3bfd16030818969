use Rattle.names.proofs.Searching.{Seeks}
use Rattle.names.proofs.find_name.Given as goal

abbrev pub invariant-loop-i : goal.invariant-loop-i
invariant-loop-i l = Seeks l.source l.names l.count l.fields l.start l.len l.i
