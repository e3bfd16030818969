use Rattle.list_reader.proofs.Walks.{Ending}
use Rattle.list_reader.proofs.line_end.Given as goal

abbrev pub invariant-loop-end : goal.invariant-loop-end
invariant-loop-end l = Ending l.text l.at l.end
