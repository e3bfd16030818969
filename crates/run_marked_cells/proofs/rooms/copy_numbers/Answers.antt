use Rattle.std.proofs.Common.{pos, arith}
use Rattle.run_marked_cells.proofs.RoomLaws.{copied}
use Rattle.run_marked_cells.proofs.rooms.copy_numbers.Goals as goal

pub returns : goal.returns
returns c = copied (pos 0) _ _ _ c.loop-i.invariant.0 (omega (arith, c.loop-i.invariant.0.len))
