use borrow.Author.Rules.{rules}
use Rattle.run_row_counts.proofs.SkipLaws.{summed_more}
use Rattle.run_row_counts.proofs.skipping.sum_from.Goals as goal

pub loop-mark-preserved : goal.loop-mark-preserved
loop-mark-preserved c = summed_more c.loop-mark.invariant (search rules) c.from-sum.ensures (search rules)
