use mathlib.Core.Path.{◌≡◌}
use Prim.Native.Nat.{◌-◌}
use lib.ListN.{length, take}
use Rattle.cell_meaning.specs.Links.{table_of}
use Rattle.cell_operands.proofs.NeighbourLaws.{Steps}
use Rattle.cell_operands.proofs.neighbour.neighbour_number.Given as goal

abbrev pub invariant-loop-k : goal.invariant-loop-k
invariant-loop-k l = Steps (table_of l.words l.n (length l.sizes)) (take l.depth l.index) l.sizes l.point l.at l.number l.here l.k × (l.dims ≡ length l.sizes)
