use Rattle.band_planner.proofs.OpeningLaws.{other_dims, by_cells}
use Rattle.band_planner.proofs.opening.right_sizes.Goals as goal

pub returns-then-sizes-dims : goal.returns-then-sizes-dims
returns-then-sizes-dims c = other_dims c.if-sizes-dims.true

pub returns : goal.returns
returns c = by_cells c.if-sizes-dims.false c.cells.ensures
