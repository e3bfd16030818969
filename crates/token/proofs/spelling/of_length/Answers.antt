use mathlib.Core.Path.{◌∙◌}
use Rattle.token.proofs.Words.{spelled_part}
use Rattle.token.proofs.spelling.of_length.Goals as goal

pub returns : goal.returns
returns c = spelled_part _ _ c.fixed.result.now ∙ rw c.fixed.ensures c.group_of.ensures.is
