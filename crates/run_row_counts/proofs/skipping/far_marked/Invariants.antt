use Prim.Native.Nat.{◌-◌}
use mathlib.Core.Path.{◌≡◌}
use lib.ListN.{length}
use Rattle.run_marked_cells.proofs.ScanLaws.{Scanned}
use Rattle.run_row_counts.proofs.skipping.far_marked.Given as goal

abbrev pub invariant-loop-at : goal.invariant-loop-at
invariant-loop-at l = Scanned l.marks l.from l.at × (l.cells ≡ length l.marks)

abbrev pub decreases-loop-at : goal.decreases-loop-at
decreases-loop-at l = l.cells - l.at
