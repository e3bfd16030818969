use borrow.Author.Rules.{rules}
use Rattle.token.proofs.bytes.kind_of.Goals as goal

pub returns : goal.returns
returns c = c.table.ensures.each c.args.b (search rules)
