use lib.ListN.{length}
use Rattle.cell_meaning.specs.Links.{table_of}
use Rattle.cell_leaves.proofs.WritingLaws.{Filled}
use Rattle.cell_leaves.proofs.fill_leaves.Given as goal

abbrev pub invariant-loop-p : goal.invariant-loop-p
invariant-loop-p l = Filled (table_of l.words l.n (length l.sizes)) l.sizes l.n l.fields l.slots l.leaves l.p
