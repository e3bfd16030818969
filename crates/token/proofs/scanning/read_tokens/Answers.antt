use borrow.Author.Rules.{rules}
use Rattle.token.proofs.Scans.{Goes}
use Rattle.token.proofs.scanning.read_tokens.Goals as goal

pub loop-here-init : goal.loop-here-init
loop-here-init c = search (rules, Goes)

pub returns-then-source-at : goal.returns-then-source-at
returns-then-source-at c = search Goes

pub loop-here-preserved : goal.loop-here-preserved
loop-here-preserved c = (search Goes, search rules)

pub returns-in-Some : goal.returns-in-Some
returns-in-Some c = search Goes
