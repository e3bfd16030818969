use Rattle.cell_operands.proofs.LeafLaws.{passed}
use Rattle.cell_statements.proofs.CellLaws.{cell_done, cell_fault}
use Rattle.cell_statements.proofs.cell.evaluate_cell.Goals as goal

pub returns-in_err-block : goal.returns-in_err-block
returns-in_err-block c =
    let y = c.in_err-block.was in
    rw (passed c.from_residual.ensures.1 y) (cell_fault c.requires c.clear.ensures c.copy_fields.ensures c.block.ensures y)

pub returns : goal.returns
returns c = cell_done c.requires c.clear.ensures c.copy_fields.ensures c.block.ensures c.in_ok-block.was
