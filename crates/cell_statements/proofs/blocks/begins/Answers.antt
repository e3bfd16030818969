use Rattle.cell_statements.proofs.StatementLaws.{begins_at, begins_name, begins_cell, begins_if, begins_forall, begins_exit, begins_last}
use Rattle.cell_statements.proofs.blocks.begins.Goals as goal

pub returns-then-kind-eq-NAME : goal.returns-then-kind-eq-NAME
returns-then-kind-eq-NAME c = begins_at 1 begins_name c.if-kind-eq-NAME.true

pub returns-then-kind-eq-CELL : goal.returns-then-kind-eq-CELL
returns-then-kind-eq-CELL c = begins_at 3 begins_cell c.if-kind-eq-CELL.true

pub returns-then-kind-eq-IF_WORD : goal.returns-then-kind-eq-IF_WORD
returns-then-kind-eq-IF_WORD c = begins_at 13 begins_if c.if-kind-eq-IF_WORD.true

pub returns-then-kind-eq-FORALL_WORD : goal.returns-then-kind-eq-FORALL_WORD
returns-then-kind-eq-FORALL_WORD c = begins_at 12 begins_forall c.if-kind-eq-FORALL_WORD.true

pub returns-then-kind-eq-EXIT_WORD : goal.returns-then-kind-eq-EXIT_WORD
returns-then-kind-eq-EXIT_WORD c = begins_at 10 begins_exit c.if-kind-eq-EXIT_WORD.true

pub returns : goal.returns
returns c = begins_last c.if-kind-eq-NAME.false c.if-kind-eq-CELL.false c.if-kind-eq-IF_WORD.false c.if-kind-eq-FORALL_WORD.false c.if-kind-eq-EXIT_WORD.false
