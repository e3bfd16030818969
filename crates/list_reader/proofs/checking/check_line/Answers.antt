use mathlib.Core.Path.{subst}
use Rattle.list_reader.specs.Promises.Promises.{Lexes}
use Rattle.list_reader.specs.Promises.Values.{fields_in}
use Rattle.list_reader.proofs.CheckLaws.{line_right}
use Rattle.list_reader.proofs.checking.check_line.Goals as goal

pub returns-in_ok-check_cell-in-Sign-eq91-default : goal.returns-in_ok-check_cell-in-Sign-eq91-default
returns-in_ok-check_cell-in-Sign-eq91-default c =
    line_right c.args.sizes.now (fields_in c.args.words.now c.args.rule) c.args.flag c.args.first c.args.last c.args.before c.args.line.now (subst (Lexes c.args.line.now) c.in_ok-t.ensures.ok_part c.next_token.ensures)
    c.in-Sign-eq91-default.is c.in-Sign-eq91-default.field-0-test c.is_some.ensures c.if-is_some.true c.in_ok-check_cell-in-Sign-eq91-default.ensures
