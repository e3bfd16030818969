use mathlib.Core.Path.{◌≡◌}
use mathlib.Core.List.{map}
use mathlib.Core.Option.{some}
use lib.ListN.{take}
use Rattle.list_meaning.specs.Writing.{print_field, listed, shown}
use Rattle.list_writer.specs.Promises.Printing.{Put}
use Rattle.list_writer.proofs.printing.Room.values.Given as goal

abbrev pub invariant-loop-k : goal.invariant-loop-k
invariant-loop-k l = Put l.initial.self (listed (map print_field (take l.k (shown (some l.flag) l.values)))) l.self × (l.self.bytes.ghost_name ≡ l.initial.self.bytes.ghost_name)
