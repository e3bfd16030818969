use Rattle.list_writer.proofs.AdmittingLaws.{counts_cells}
use Rattle.list_writer.proofs.admitting.cell_count.Goals as goal

pub returns : goal.returns
returns c = counts_cells _ c.cells.ensures
