use Rattle.move_profile.proofs.FieldLaws.{Seeks}
use Rattle.move_profile.proofs.fields.moved_slot.Given as goal

abbrev pub invariant-loop-slot : goal.invariant-loop-slot
invariant-loop-slot l = Seeks l.source l.names l.slot
