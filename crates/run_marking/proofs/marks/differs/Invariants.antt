use Prim.Native.Nat.{◌*◌}
use mathlib.Core.Path.{◌≡◌}
use Rattle.run_marking.proofs.MarkLaws.{Same}
use Rattle.run_marking.proofs.marks.differs.Given as goal

abbrev pub invariant-loop-k : goal.invariant-loop-k
invariant-loop-k l = (l.from ≡ l.c * l.fields) × Same l.old l.grid l.from l.k
