use Rattle.run_marking.specs.Promises.Noting.{noted_lines}
use Rattle.run_marking.proofs.NotingLaws.{Noted}
use Rattle.run_marking.proofs.opening.note_lines.Given as goal

abbrev pub invariant-loop-e : goal.invariant-loop-e
invariant-loop-e l = Noted (noted_lines l.base l.n l.first l.m l.start l.width) l.fn.marks l.marks l.e
