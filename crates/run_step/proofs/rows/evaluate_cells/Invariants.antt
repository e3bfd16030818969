use Prim.Native.Nat.{◌+◌, ◌-◌, ◌≤◌}
use mathlib.Core.Path.{◌≡◌}
use lib.ListN.{length}
use Rattle.run_marked_cells.specs.Promises.Marked.{PointSet}
use Rattle.run_step.proofs.RowLaws.{Rowing}
use Rattle.run_step.proofs.rows.evaluate_cells.Given as goal

abbrev pub invariant-loop-i : goal.invariant-loop-i
invariant-loop-i l =
    Rowing l.words l.rule l.sizes l.from l.grid l.time l.count l.i l.total l.next × (l.i ≤ l.cells) × (length l.next ≡ length l.initial.next) × (length l.point ≡ length l.sizes) × PointSet l.sizes (l.from + l.i) l.point

abbrev pub decreases-loop-i : goal.decreases-loop-i
decreases-loop-i l =
    l.cells - l.i
