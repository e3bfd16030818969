use Rattle.std.proofs.Common.{◌≡◌, ◌++◌, map, take, drop}
use Rattle.run_marked_cells.proofs.RoomLaws.{flag_of}
use Rattle.run_marked_cells.proofs.rooms.flag_marks.Given as goal

abbrev pub invariant-loop-mark : goal.invariant-loop-mark
invariant-loop-mark l = l.marks ≡ map flag_of (take l.mark-index l.fn.marks) ++ drop l.mark-index l.fn.marks
