use mathlib.Core.Path.{refl}
use Rattle.list_reader.proofs.Walks.{some_left, token_sign}
use Rattle.list_reader.proofs.next_token.Goals as goal

pub returns-in_default : goal.returns-in_default
returns-in_default c =
    token_sign c.args.line.now c.past_blanks-rest.result.now c.past_blanks-rest.ensures (some_left c.args.line.now c.past_blanks-rest.result.now c.past_blanks-rest.ensures c.is_empty.ensures c.if-is_empty.false)
    c.kind_at.result c.kind_at.ensures c.in_default.not-Digit refl
