use Rattle.std.proofs.Common.{◌≤◌, length, All}
use Rattle.tool_console.proofs.arguments.arguments.Given as goal

-- every argument is short, or empty
abbrev pub invariant-loop-i : goal.invariant-loop-i
invariant-loop-i l = All (λ argument. length argument.items ≤ 4096) l.all.items
