use Rattle.read_constants.proofs.Values.{rule_reversed, rule_none, rule_long}
use Rattle.read_constants.proofs.range_rule.Goals as goal

pub returns-then-span-eq0 : goal.returns-then-span-eq0
returns-then-span-eq0 c = rule_reversed c.args.low c.args.high _ c.decode.ensures c.decode-2.ensures c.span-span.ensures c.if-span-eq0.true

pub returns-then-most-span : goal.returns-then-most-span
returns-then-most-span c = rule_long c.args.low c.args.high _ c.decode.ensures c.decode-2.ensures c.span-span.ensures c.if-span-eq0.false c.if-most-span.true

pub returns : goal.returns
returns c = rule_none c.args.low c.args.high _ c.decode.ensures c.decode-2.ensures c.span-span.ensures c.if-span-eq0.false c.if-most-span.false
