use Prim.Native.Nat.{◌+◌, ◌-◌, ◌≤◌}
use mathlib.Core.Path.{◌≡◌}
use Rattle.run_row_counts.proofs.CountLaws.{zeros_from}
use Rattle.run_row_counts.proofs.counting.count_row.Given as goal

abbrev pub invariant-loop-cell : goal.invariant-loop-cell
invariant-loop-cell l = (l.count ≡ zeros_from l.fields l.field l.from l.grid (l.cell - l.from)) × (l.from ≤ l.cell) × (l.cell ≤ l.from + l.cells) × (l.cell-end ≡ l.from + l.cells)
