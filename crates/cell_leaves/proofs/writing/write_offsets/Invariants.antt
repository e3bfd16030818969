use lib.ListN.{length}
use Rattle.cell_meaning.specs.Links.{table_of}
use Rattle.cell_leaves.proofs.WritingLaws.{Steps}
use Rattle.cell_leaves.proofs.writing.write_offsets.Given as goal

abbrev pub invariant-loop-k : goal.invariant-loop-k
invariant-loop-k l = Steps (table_of l.words l.n (length l.sizes)) l.sizes l.p l.initial.leaves l.leaves l.here l.k
