use mathlib.Core.Path.{◌≡◌}
use Prim.Native.Nat.{◌-◌, ◌≤◌}
use lib.ListN.{length, take}
use Rattle.cell_meaning.specs.Links.{table_of}
use Rattle.cell_meaning.specs.Promises.Leaves.{leaf_word}
use Rattle.cell_operands.proofs.NotedLaws.{Walk}
use Rattle.cell_operands.proofs.noted.noted_number.Given as goal

abbrev pub invariant-loop-k : goal.invariant-loop-k
invariant-loop-k l =
    Walk (table_of l.words l.n (length l.sizes)) (take l.depth l.index) l.sizes l.point (leaf_word l.leaves l.at) l.at l.number l.k × (l.dims ≡ length l.sizes)
