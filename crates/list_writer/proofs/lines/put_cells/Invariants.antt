use Prim.Native.Nat.{◌≤◌, ◌+◌, ◌*◌}
use mathlib.Core.Path.{◌≡◌}
use lib.ListN.{length}
use Rattle.list_writer.specs.Promises.Printing.{Put}
use Rattle.list_writer.specs.Promises.Lines.{all_changes}
use Rattle.list_writer.proofs.lines.put_cells.Given as goal

abbrev pub invariant-loop-c : goal.invariant-loop-c
invariant-loop-c l = Put l.initial.room (all_changes l.change l.c) l.room × (l.room.bytes.ghost_name ≡ l.initial.room.bytes.ghost_name) × (l.room.at ≤ l.initial.room.at + 1000 * l.c) × (length l.point ≡ length l.initial.point)
