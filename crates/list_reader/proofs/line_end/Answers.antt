use Rattle.list_reader.proofs.Walks.{end_more}
use Rattle.list_reader.proofs.line_end.Goals as goal

pub loop-end-preserved : goal.loop-end-preserved
loop-end-preserved c = end_more c.args.text.now c.args.at c.loop-end.invariant c.loop-end-test.true c.kind_at.result c.kind_at.ensures c.in_default.not-LineEnd
