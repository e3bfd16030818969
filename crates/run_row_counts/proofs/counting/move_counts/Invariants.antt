use Prim.Native.Nat.{◌-◌, ◌*◌, ◌≤◌, ◌<◌}
use mathlib.Core.Path.{◌≡◌}
use mathlib.Core.Bool.{true}
use lib.ListN.{length}
use Rattle.automaton.specs.Step.{marked}
use Rattle.run_row_counts.specs.Promises.Counting.{Movable}
use Rattle.run_row_counts.proofs.MoveLaws.{MovedTo}
use Rattle.run_row_counts.proofs.counting.move_counts.Given as goal

abbrev pub invariant-loop-cell : goal.invariant-loop-cell
invariant-loop-cell l =
    ((m : Movable l.marks l.sizes l.fields l.field l.old l.grid l.initial.counts) → MovedTo m l.cell l.counts) × (l.row * l.cells ≤ l.cell) × (l.cell ≤ length l.marks) × (l.cell < length l.marks → marked l.marks l.cell ≡ true)

abbrev pub decreases-loop-cell : goal.decreases-loop-cell
decreases-loop-cell l = length l.marks - l.cell
