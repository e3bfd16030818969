use Prim.Native.Nat.{◌-◌, ◌≤◌, ◌<◌}
use mathlib.Core.Path.{◌≡◌}
use mathlib.Core.Bool.{true}
use lib.ListN.{length}
use Rattle.automaton.specs.Step.{marked}
use Rattle.run_marked_cells.specs.Promises.Marked.{PointSet}
use Rattle.cell_meaning.specs.Promises.Stands.{Holds}
use Rattle.run_step.proofs.FillLaws.{Filling}
use Rattle.run_step.proofs.steps.evaluate_marked.Given as goal

abbrev pub invariant-loop-cell : goal.invariant-loop-cell
invariant-loop-cell l =
    Filling l.sizes l.old l.marks l.time (Holds l.words l.rule) l.rule l.initial.new l.count l.cell l.total l.new × (l.cell ≤ length l.marks) × (l.cell < length l.marks → marked l.marks l.cell ≡ true)
    × (length l.new ≡ length l.initial.new) × (length l.point ≡ length l.sizes) × PointSet l.sizes l.cell l.point

abbrev pub decreases-loop-cell : goal.decreases-loop-cell
decreases-loop-cell l =
    length l.marks - l.cell
