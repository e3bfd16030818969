use Rattle.run_marking.specs.Promises.Noting.{cells_by, NotedCounts}
use Rattle.run_marking.proofs.OpenLaws.{Opening}
use Rattle.run_marking.proofs.mark_changed.Given as goal

abbrev pub invariant-loop-c : goal.invariant-loop-c
invariant-loop-c l = Opening (cells_by l.sizes l.bounds l.steps l.listed) l.fields l.old l.grid l.initial.marks l.marks l.c × NotedCounts l.sizes l.bounds l.counts
