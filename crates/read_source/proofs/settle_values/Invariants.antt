use Rattle.read_source.proofs.Tables.{Settled}
use Rattle.read_source.proofs.settle_values.Given as goal

abbrev pub invariant-loop-i : goal.invariant-loop-i
invariant-loop-i l = Settled l.words l.initial.names l.i l.names
