use mathlib.Core.Path.{subst}
use Rattle.list_reader.proofs.CheckLaws.{exits, cell_wrong, cell_bad}
use Rattle.list_reader.specs.Promises.Points.{ReadsPoint}
use Rattle.list_reader.specs.Promises.Values.{fields_in, ReadsValues}
use Rattle.list_reader.proofs.checking.check_cell.Goals as goal

pub returns-in_err-point : goal.returns-in_err-point
returns-in_err-point c =
    let p = exits c.from_residual.ensures.1 c.in_err-point.was c.ok_or.ensures.value in
    rw p.1 (cell_wrong c.args.sizes.now (fields_in c.args.words.now c.args.rule) c.args.flag c.args.line.now (subst (ReadsPoint c.args.sizes.now c.args.line.now) p.0 c.read_point.ensures))

pub returns-in_err-values : goal.returns-in_err-values
returns-in_err-values c =
    let p = exits c.from_residual-in_err-values.ensures.1 c.in_err-values.was c.ok_or-2.ensures.value in
    rw p.1
    (cell_bad c.args.sizes.now (fields_in c.args.words.now c.args.rule) c.args.flag c.args.line.now (subst (ReadsPoint c.args.sizes.now c.args.line.now) c.in_ok-point.ensures.ok_part c.read_point.ensures)
    c.in-Some-eq61-default.ensures c.in-Some-eq61-default.field-0-0-test
    (subst (ReadsValues (fields_in c.args.words.now c.args.rule) c.args.rule.fields c.args.flag c.in-Some-eq61-default.assigned.now) p.0 c.read_values.ensures))
