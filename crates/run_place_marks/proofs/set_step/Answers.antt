use Rattle.run_place_marks.proofs.BackLaws.{stepping_done}
use Rattle.run_place_marks.proofs.set_step.Goals as goal

pub returns : goal.returns
returns c = stepping_done _ _ _ _ c.loop-d.steps c.loop-d.d c.loop-d.invariant c.loop-d-test.false
