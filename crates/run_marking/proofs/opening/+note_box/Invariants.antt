use Rattle.run_marking.proofs.BoxLaws.{box_row}
use lib.ListN.{length}
use Prim.Native.Nat.{◌<◌}
use Rattle.run_marking.proofs.NotingLaws.{Noted}
use Rattle.run_marking.proofs.opening.+note_box.Given as goal

abbrev pub decreases-note_box : goal.decreases-note_box
decreases-note_box l = length l.sizes.now

abbrev pub invariant-loop-e : goal.invariant-loop-e
invariant-loop-e l = Noted (box_row l.sizes l.firsts l.counts l.base) l.initial.marks l.marks l.e × (1 < length l.sizes)
