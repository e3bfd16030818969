use mathlib.Core.Path.{◌≡◌}
use mathlib.Core.List.{map}
use lib.ListN.{take}
use Rattle.list_meaning.specs.Writing.{print_number, listed}
use Rattle.list_writer.specs.Promises.Printing.{Put}
use Rattle.list_writer.proofs.printing.Room.numbers.Given as goal

abbrev pub invariant-loop-k : goal.invariant-loop-k
invariant-loop-k l = Put l.initial.self (listed (map print_number (take l.k l.numbers))) l.self × (l.self.bytes.ghost_name ≡ l.initial.self.bytes.ghost_name)
