use Rattle.cell_operands.proofs.OperatorLaws.{told_plus, told_equal}
use Rattle.cell_expressions.proofs.ExpressionLaws.{joined_some}
use Rattle.cell_expressions.proofs.expression.joined.Goals as goal

pub returns-in-Ok : goal.returns-in-Ok
returns-in-Ok c =
    let if1-left = c.if-op-eq0.false in
    joined_some _ _ _ _ _ if1-left
    (told_plus _ _ _ _ _ c.if-op-eq-PLUS.true c.add.ensures c.in-Ok.is)

pub returns-then-op-eq-EQUAL : goal.returns-then-op-eq-EQUAL
returns-then-op-eq-EQUAL c = joined_some _ _ _ _ _ c.if-op-eq0.false (told_equal _ _ _ _ _ c.if-op-eq-EQUAL.true c.equal-value.ensures)
