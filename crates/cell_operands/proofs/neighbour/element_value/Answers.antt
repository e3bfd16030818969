use Rattle.cell_operands.proofs.NeighbourLaws.{NeighbourWays}
use Rattle.cell_operands.proofs.neighbour.element_value.Goals as goal

pub returns-then-word_at-eq5 : goal.returns-then-word_at-eq5
returns-then-word_at-eq5 c = search NeighbourWays

pub returns-then-word_at-eq-NAME : goal.returns-then-word_at-eq-NAME
returns-then-word_at-eq-NAME c = search NeighbourWays

pub returns : goal.returns
returns c = search NeighbourWays
