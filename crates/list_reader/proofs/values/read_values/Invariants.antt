use lib.ListN.{length}
use Rattle.list_reader.specs.Promises.Values.{fields_in}
use Rattle.list_reader.proofs.ValueLaws.{Valuing}
use Rattle.list_reader.proofs.values.read_values.Given as goal

abbrev pub invariant-loop-given : goal.invariant-loop-given
invariant-loop-given l = Valuing (fields_in l.words l.rule) l.flag l.line l.fit l.kept l.count l.here

abbrev pub decreases-loop-given : goal.decreases-loop-given
decreases-loop-given l = length l.here
