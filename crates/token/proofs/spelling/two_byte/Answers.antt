use mathlib.Core.Path.{◌∙◌}
use Rattle.token.proofs.Words.{spelled_part}
use Rattle.token.proofs.spelling.two_byte.Goals as goal

pub returns : goal.returns
returns c = spelled_part 17 8 c.fixed.result.now ∙ rw c.fixed.ensures
