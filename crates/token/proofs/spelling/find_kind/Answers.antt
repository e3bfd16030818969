use Rattle.token.proofs.Words.{seek_none, seek_found, seek_next}
use Rattle.token.proofs.spelling.find_kind.Goals as goal

pub returns-then-spells : goal.returns-then-spells
returns-then-spells c = seek_found _ _ c.loop-letters.invariant c.loop-letters-test.true _ c.spells.ensures c.if-spells.true

pub loop-letters-preserved : goal.loop-letters-preserved
loop-letters-preserved c = seek_next _ _ c.loop-letters.invariant c.loop-letters-test.true _ c.spells.ensures c.if-spells.false

pub returns : goal.returns
returns c = seek_none _ _ c.loop-letters.invariant c.loop-letters-test.false
