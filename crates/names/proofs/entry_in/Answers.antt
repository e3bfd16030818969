use Rattle.names.specs.Names.{entry_at}
use borrow.Author.Rules.{rules}
use Rattle.names.proofs.entry_in.Goals as goal

pub returns : goal.returns
unfolding entry_at
returns c = search rules
