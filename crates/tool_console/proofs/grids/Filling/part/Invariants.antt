use Rattle.std.proofs.Common.{◌≡◌, ◌≤◌, length}
use Rattle.tool_console.proofs.grids.Filling.part.Given as goal

abbrev pub invariant-loop-b : goal.invariant-loop-b
invariant-loop-b l = (l.filling.count ≤ length l.grid) × (length l.grid ≡ length l.initial.grid)
