use Rattle.cell_leaves.specs.Promises.Shaping.{LeafShaped}
use Rattle.cell_leaves.proofs.shaping.write_shapes.Given as goal

abbrev pub invariant-loop-p : goal.invariant-loop-p
invariant-loop-p l = LeafShaped l.p l.initial.leaves l.leaves
