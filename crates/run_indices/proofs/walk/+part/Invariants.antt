use Prim.Native.Nat.{◌-◌}
use Rattle.run_places.specs.Promises.Vectors.{open_loops}
use Rattle.run_indices.proofs.WalkLaws.{Going}
use Rattle.run_indices.proofs.walk.+part.Given as goal

abbrev pub decreases-part : goal.decreases-part
decreases-part l = l.rule.tokens - l.from

abbrev pub invariant-loop-at : goal.invariant-loop-at
invariant-loop-at l = Going l.words l.rule l.sizes (open_loops l.loops) l.from l.to l.initial.s l.at l.s

abbrev pub decreases-loop-at : goal.decreases-loop-at
decreases-loop-at l = l.to - l.at
