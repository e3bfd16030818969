use Prim.Native.Nat.{◌-◌}
use mathlib.Core.Path.{◌≡◌}
use lib.ListN.{take, length}
use Rattle.cell_operands.specs.Promises.Scene.{table, env}
use Rattle.cell_statements.proofs.AssignmentLaws.{Tried}
use Rattle.cell_statements.proofs.assignment.assignment.Given as goal

abbrev pub invariant-loop-vars : goal.invariant-loop-vars
invariant-loop-vars l = Tried (table l.scene) (env l.scene) (take l.scene.depth l.index) l.at (take l.scene.site.slots l.vars) l.next l.here × (l.vars ≡ l.initial.vars) × (l.next ≡ l.initial.next) × (length l.next ≡ length l.initial.next)

abbrev pub decreases-loop-vars : goal.decreases-loop-vars
decreases-loop-vars l = l.scene.site.tokens - l.here
