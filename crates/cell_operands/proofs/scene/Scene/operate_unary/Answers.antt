use Rattle.cell_operands.proofs.OperatorLaws.{OperatorWays}
use Rattle.cell_operands.proofs.scene.Scene.operate_unary.Goals as goal

pub returns : goal.returns
returns c = search OperatorWays
