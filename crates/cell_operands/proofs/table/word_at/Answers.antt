use Rattle.cell_operands.proofs.TableLaws.{TableWays}
use Rattle.cell_operands.proofs.table.word_at.Goals as goal

pub returns-then-i-n : goal.returns-then-i-n
returns-then-i-n c = search TableWays

pub returns-else-i-n : goal.returns-else-i-n
returns-else-i-n c = search TableWays
