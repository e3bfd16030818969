use Rattle.read_declaration.proofs.Tests.{starts_const, starts_plain}
use Rattle.read_declaration.proofs.group_start.Goals as goal

pub returns-then-t-eq-CONST_WORD : goal.returns-then-t-eq-CONST_WORD
returns-then-t-eq-CONST_WORD c =
    let if1 = c.if-t-eq-CONST_WORD in
    let moved = c.moved in
    let with_number = c.with_number in
    starts_const if1.true moved.ensures with_number.ensures

pub returns : goal.returns
returns c =
    let if1 = c.if-t-eq-CONST_WORD in
    let with-number2 = c.with_number-2 in
    starts_plain if1.false with-number2.ensures
