use Rattle.run_admission.proofs.EntryLaws.{Passed}
use Rattle.run_admission.proofs.out_of_field.Given as goal

abbrev pub invariant-loop-e : goal.invariant-loop-e
invariant-loop-e l = Passed l.words l.rule l.grid l.which l.e
