use native.Mathlib.Omega.{arith}
use Rattle.band_planner.proofs.PlanLaws.{writing_start, writing_more, writing_done}
use Rattle.band_planner.proofs.plans.write_plan.Goals as goal

pub loop-from-init : goal.loop-from-init
loop-from-init c = writing_start _ _ _

pub loop-from-preserved : goal.loop-from-preserved
loop-from-preserved c =
    let l = c.loop-from in
    writing_more _ _ l.invariant c.requires.0 c.requires.1 c.loop-from-test.true (omega arith) c.put_band.ensures

pub returns : goal.returns
returns c = writing_done _ _ c.loop-from.invariant c.loop-from-test.false
