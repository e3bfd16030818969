use Rattle.cell_statements.proofs.AssignmentLaws.{stores_variable, stores_field, stores_fault}
use Rattle.cell_statements.proofs.assignment.put.Goals as goal

pub returns-then-fits_field : goal.returns-then-fits_field
returns-then-fits_field c =
    let word-at-ensures = c.word-which.ensures in
    let word-at2-ensures = c.kind.ensures.is in
    let if1-taken = c.if-kind-eq-CELL.true in
    stores_field _ _ _ _ _ _ _ word-at-ensures word-at2-ensures if1-taken c.fits_field.ensures
    c.if-fits_field.true c.put_field.ensures

pub returns-then-kind-eq-CELL : goal.returns-then-kind-eq-CELL
returns-then-kind-eq-CELL c =
    let word-at-ensures = c.word-which.ensures in
    rw c.new.ensures
    (stores_fault _ _ _ _ _ _ _ word-at-ensures c.kind.ensures.is c.if-kind-eq-CELL.true
    c.fits_field.ensures c.if-fits_field.false c.place.ensures)

pub returns : goal.returns
returns c = stores_variable _ _ _ _ _ _ _ c.word-which.ensures c.kind.ensures.is c.if-kind-eq-CELL.false c.put_variable.ensures
