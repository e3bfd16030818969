use Rattle.list_reader.proofs.ValueLaws.{value_literal, value_signed}
use Rattle.list_reader.proofs.values.read_value.Goals as goal

pub returns-in-Literal : goal.returns-in-Literal
returns-in-Literal c = value_literal c.args.line.now c.in_ok-n.ensures c.in-Literal.is c.decode.ensures c.behind.ensures

pub returns-in_ok-v-in-Sign : goal.returns-in_ok-v-in-Sign
returns-in_ok-v-in-Sign c = value_signed c.args.line.now c.in_ok-n.ensures c.in-Sign.is c.in-Sign.b-test.1 c.in_ok-v-in-Sign.ensures c.behind-in-Sign.ensures
