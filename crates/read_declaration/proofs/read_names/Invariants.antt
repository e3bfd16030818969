use Prim.Native.Nat.{◌-◌}
use lib.ListN.{length}
use Rattle.read_state.specs.Promises.Reading.{Ready}
use Rattle.read_declaration.proofs.Naming.{Naming}
use Rattle.read_declaration.proofs.read_names.Given as goal

abbrev pub invariant-loop-a : goal.invariant-loop-a
invariant-loop-a l = Naming l.kind l.got l.source l.scan l.initial.here l.initial.names l.words l.n l.here l.names × Ready l.scan (length l.names) (length l.words) l.here

abbrev pub decreases-loop-a : goal.decreases-loop-a
decreases-loop-a l = 4097 - l.here.at
