use Rattle.cell_operands.proofs.NeighbourLaws.{NeighbourWays}
use Rattle.cell_operands.proofs.neighbour.field_of.Goals as goal

pub returns : goal.returns
returns c = search NeighbourWays
