use borrow.Author.Rules.{rules}
use Rattle.move_profile.proofs.MoveLaws.{Onces, link_within}
use Rattle.move_profile.proofs.moves.moves_once.Goals as goal

pub returns-then-not-opens_at : goal.returns-then-not-opens_at
returns-then-not-opens_at c = search Onces

pub returns-then-word_at-ne-END_WORD : goal.returns-then-word_at-ne-END_WORD
returns-then-word_at-ne-END_WORD c = search Onces

pub past_constants-requires : goal.past_constants-requires
past_constants-requires c = search (rules, link_within)

pub returns-then-past_constants-n : goal.returns-then-past_constants-n
returns-then-past_constants-n c = search Onces

pub returns : goal.returns
returns c = search Onces
