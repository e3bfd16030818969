use Rattle.cell_operands.proofs.TableLaws.{TableWays}
use Rattle.cell_operands.proofs.table.link_at.Goals as goal

pub returns-then-n-there : goal.returns-then-n-there
returns-then-n-there c = search TableWays

pub returns-then-i-there : goal.returns-then-i-there
returns-then-i-there c = search TableWays

pub returns : goal.returns
returns c = search TableWays
