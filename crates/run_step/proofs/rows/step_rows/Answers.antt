use mathlib.Core.Path.{refl}
use Rattle.run_step.proofs.RowLaws.{rows_ask, rows_point, rows_stepped}
use borrow.Author.Rules.{rules}
use Rattle.run_step.proofs.rows.step_rows.Goals as goal

pub evaluate_cells-requires : goal.evaluate_cells-requires
evaluate_cells-requires c = (rows_ask c.requires, rows_point c.requires _ refl)

pub returns : goal.returns
returns c = rows_stepped c.requires (search rules) c.evaluate_cells.ensures
