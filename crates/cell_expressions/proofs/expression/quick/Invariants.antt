use Prim.Native.Nat.{◌-◌}
use Rattle.cell_operands.specs.Promises.Scene.{In}
use Rattle.cell_expressions.proofs.ExpressionLaws.{Underway}
use Rattle.cell_expressions.proofs.expression.quick.Given as goal

abbrev pub invariant-loop-right : goal.invariant-loop-right
invariant-loop-right l =
    In Underway l.scene l.vars l.index l.at l.level l.left l.op l.own l.last l.here

abbrev pub decreases-loop-right : goal.decreases-loop-right
decreases-loop-right l =
    l.scene.site.tokens - l.here
