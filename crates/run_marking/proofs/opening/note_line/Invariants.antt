use Prim.Native.Nat.{◌+◌, ◌-◌, ◌%◌, ◌≤◌, ◌<◌}
use mathlib.Core.Path.{◌≡◌}
use Rattle.run_marking.specs.Promises.Noting.{noted_line}
use Rattle.run_marking.proofs.NotingLaws.{Noted}
use Rattle.run_marking.proofs.opening.note_line.Given as goal

abbrev pub invariant-loop-e : goal.invariant-loop-e
invariant-loop-e l = (l.e ≤ l.count) × (l.j < l.n) × (l.j ≡ (l.first + l.e) % l.n) × Noted (noted_line l.base l.n l.first) l.fn.marks l.marks l.e

abbrev pub decreases-loop-e : goal.decreases-loop-e
decreases-loop-e l = l.count - l.e
