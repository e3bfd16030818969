use Rattle.run_place_marks.proofs.PlacingLaws.{Noted}
use Rattle.run_place_marks.proofs.note_steps.Given as goal

abbrev pub invariant-loop-k : goal.invariant-loop-k
invariant-loop-k l = Noted l.sizes l.at l.steps l.initial.marks l.marks l.count l.k
