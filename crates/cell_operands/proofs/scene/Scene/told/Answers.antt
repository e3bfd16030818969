use Rattle.cell_operands.proofs.OperatorLaws.{OperatorWays, told_fault}
use Rattle.cell_operands.proofs.scene.Scene.told.Goals as goal

pub returns-in-Ok : goal.returns-in-Ok
returns-in-Ok c = search OperatorWays

pub returns-in-Err : goal.returns-in-Err
returns-in-Err c = rw (c.new.ensures, c.from.ensures) (told_fault _ _ _ c.in-Err.is c.place.ensures)
