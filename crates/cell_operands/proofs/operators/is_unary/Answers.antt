use Rattle.cell_operands.proofs.OperatorLaws.{OperatorWays}
use Rattle.cell_operands.proofs.operators.is_unary.Goals as goal

pub returns-then-kind-eq-NOT : goal.returns-then-kind-eq-NOT
returns-then-kind-eq-NOT c = search OperatorWays

pub returns : goal.returns
returns c = search OperatorWays
