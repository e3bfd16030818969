use Rattle.move_profile.proofs.MoveLaws.{row_other}
use Rattle.move_profile.proofs.moves.kinds_at.Goals as goal

pub returns-then-word_at-kinds : goal.returns-then-word_at-kinds
returns-then-word_at-kinds c = row_other c.args.words.now c.args.n c.args.at c.args.kinds.now c.loop-i.invariant c.loop-i-test.true c.word_at.ensures c.if-word_at-kinds.true
