use Prim.Native.Nat.{◌+◌, ◌*◌, ◌-◌}
use Rattle.cell_operands.specs.Promises.Scene.{In}
use Rattle.cell_expressions.proofs.ExpressionLaws.{Chain}
use Rattle.cell_expressions.proofs.expression.+expressions.Given as goal

abbrev pub decreases-bracket : goal.decreases-bracket
decreases-bracket l = 5 * (l.scene.now.site.tokens - l.at)

abbrev pub decreases-chain : goal.decreases-chain
decreases-chain l = 5 * (l.scene.now.site.tokens - l.at) + 3

abbrev pub decreases-expression : goal.decreases-expression
decreases-expression l = 5 * (l.scene.now.site.tokens - l.at) + 4

abbrev pub decreases-operand : goal.decreases-operand
decreases-operand l = 5 * (l.scene.now.site.tokens - l.at) + 2

abbrev pub decreases-primary : goal.decreases-primary
decreases-primary l = 5 * (l.scene.now.site.tokens - l.at) + 1

abbrev pub invariant-chain-loop-left : goal.invariant-chain-loop-left
invariant-chain-loop-left l = In Chain l.scene l.vars l.index l.at l.level l.left.value l.left.next

abbrev pub decreases-chain-loop-left : goal.decreases-chain-loop-left
decreases-chain-loop-left l = l.scene.site.tokens - l.left.next
