use Rattle.run_place_marks.proofs.BackLaws.{Stepping}
use Rattle.run_place_marks.proofs.set_step.Given as goal

abbrev pub invariant-loop-d : goal.invariant-loop-d
invariant-loop-d l = Stepping l.sizes l.places l.k l.initial.steps l.steps l.d
