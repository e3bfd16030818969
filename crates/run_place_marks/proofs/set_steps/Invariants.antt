use Prim.Native.Nat.{◌≤◌}
use Rattle.run_place_marks.specs.Promises.Placing.{Backs}
use Rattle.run_place_marks.proofs.set_steps.Given as goal

abbrev pub invariant-loop-k : goal.invariant-loop-k
invariant-loop-k l = (l.k ≤ l.count) × Backs l.sizes l.places 0 l.k l.initial.steps l.steps
