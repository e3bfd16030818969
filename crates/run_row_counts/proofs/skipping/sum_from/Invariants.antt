use Rattle.run_row_counts.proofs.SkipLaws.{Summed}
use Rattle.run_row_counts.proofs.skipping.sum_from.Given as goal

abbrev pub invariant-loop-mark : goal.invariant-loop-mark
invariant-loop-mark l = Summed l.marks l.at l.mark-index l.sum
