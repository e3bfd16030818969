use Rattle.program.proofs.Tokens.{Tokens}
use Rattle.program.proofs.put_word.Goals as goal

pub returns-else-i-lt-MOST_TOKENS : goal.returns-else-i-lt-MOST_TOKENS
returns-else-i-lt-MOST_TOKENS c = search Tokens
