use lib.ListN.{get_or}
use Rattle.automaton.specs.Promises.ListedLaws.{Made}
use Rattle.run_row_counts.specs.Promises.Counting.{row_size}
use Rattle.run_row_counts.proofs.CountLaws.{row_count}
use Rattle.run_row_counts.proofs.counting.fill_counts.Given as goal

abbrev pub invariant-loop-row : goal.invariant-loop-row
invariant-loop-row l = Made (row_count l.fields l.field (row_size l.sizes) l.grid) 0 (get_or l.sizes 0 0) l.counts l.row
