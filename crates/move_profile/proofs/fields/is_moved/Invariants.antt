use Rattle.move_profile.proofs.FieldLaws.{Spells}
use Rattle.move_profile.proofs.fields.is_moved.Given as goal

abbrev pub invariant-loop-k : goal.invariant-loop-k
invariant-loop-k l = Spells l.source l.start l.k
