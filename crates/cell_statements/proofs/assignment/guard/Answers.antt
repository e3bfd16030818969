use Rattle.cell_operands.proofs.TableLaws.{link_bounds}
use Rattle.cell_statements.proofs.AssignmentLaws.{guard_met, guard_fault}
use Rattle.cell_statements.proofs.assignment.guard.Goals as goal

pub evaluated-requires : goal.evaluated-requires
evaluated-requires c = (link_bounds _ _ _ c.inner.ensures c.requires).1

pub returns-in-Err : goal.returns-in-Err
returns-in-Err c = guard_fault _ _ _ _ _ c.word.ensures c.if-word-eq0.false c.inner.ensures c.evaluated.ensures c.in-Err.is

pub returns : goal.returns
returns c =
    guard_met _ _ _ _ _ c.word.ensures c.if-word-eq0.false c.inner.ensures c.evaluated.ensures c.in-Ok.is c.is_true.ensures
