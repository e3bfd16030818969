use Rattle.program.proofs.Tokens.{Tokens}
use Rattle.program.proofs.word_at.Goals as goal

pub returns : goal.returns
returns c = search Tokens
