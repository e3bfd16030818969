use Rattle.program.proofs.Tokens.{Tokens}
use Rattle.program.proofs.token_at.Goals as goal

pub returns-then-i-scan : goal.returns-then-i-scan
returns-then-i-scan c = search Tokens

pub returns : goal.returns
returns c = search Tokens
