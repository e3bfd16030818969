use Rattle.std.proofs.Common.{◌≡◌, ◌≤◌, length}
use Rattle.tool_console.proofs.grids.read_parts.Given as goal

abbrev pub invariant-loop : goal.invariant-loop
invariant-loop l = (l.filling.count ≤ length l.grid) × (length l.grid ≡ length l.initial.grid)
