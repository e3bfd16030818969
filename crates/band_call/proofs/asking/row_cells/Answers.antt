use native.Mathlib.Omega.{arith}
use Rattle.band_call.proofs.AskingLaws.{divided, some_rows}
use Rattle.band_call.proofs.asking.row_cells.Goals as goal

pub nonzero_div-result : goal.nonzero_div-result
nonzero_div-result c = omega (arith, some_rows c.requires)

pub returns : goal.returns
returns c = divided c.requires c.cells.ensures
