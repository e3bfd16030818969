use borrow.Author.Rules.{rules}
use Rattle.names.proofs.Spelling.{Spellings}
use Rattle.names.proofs.same_spelling.Goals as goal

pub loop-k-init : goal.loop-k-init
loop-k-init c = search (rules, Spellings)

pub returns-then-p-q : goal.returns-then-p-q
returns-then-p-q c = search Spellings

pub loop-k-preserved : goal.loop-k-preserved
loop-k-preserved c = search (rules, Spellings)

pub returns : goal.returns
returns c = search Spellings
