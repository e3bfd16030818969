use Rattle.std.proofs.Common.{◌≡◌, ◌/◌, ◌++◌, map, take, drop}
use Rattle.run_marking.proofs.marks.halve.Given as goal

abbrev pub invariant-loop-mark : goal.invariant-loop-mark
invariant-loop-mark l = l.marks ≡ map (λ x. x / 2) (take l.mark-index l.fn.marks) ++ drop l.mark-index l.fn.marks
