use Prim.Native.Nat.{◌-◌}
use lib.ListN.{length}
use Rattle.list_reader.specs.Promises.Values.{fields_in}
use Rattle.list_reader.specs.Promises.Checks.{limits}
use Rattle.list_reader.proofs.CheckLaws.{Checking}
use Rattle.list_reader.proofs.checking.check_list.Given as goal

abbrev pub invariant-loop-at : goal.invariant-loop-at
invariant-loop-at l = Checking (limits l.sizes (fields_in l.words l.rule) l.flag l.first l.last) l.text l.before l.line l.at

abbrev pub decreases-loop-at : goal.decreases-loop-at
decreases-loop-at l = length l.text - l.at
