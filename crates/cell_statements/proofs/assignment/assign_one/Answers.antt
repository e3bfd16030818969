use Rattle.cell_statements.proofs.AssignmentLaws.{one_fault, one_stored}
use Rattle.cell_statements.proofs.assignment.assign_one.Goals as goal

pub returns-in-Err : goal.returns-in-Err
returns-in-Err c = one_fault _ _ _ _ _ _ _ c.evaluated.ensures c.in-Err.is

pub returns : goal.returns
returns c = one_stored _ _ _ _ _ _ _ c.evaluated.ensures c.in-Ok.is c.put.ensures
