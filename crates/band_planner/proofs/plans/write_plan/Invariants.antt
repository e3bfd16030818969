use Prim.Native.Nat.{◌-◌}
use Rattle.band_planner.proofs.PlanLaws.{Writing}
use Rattle.band_planner.proofs.plans.write_plan.Given as goal

abbrev pub invariant-loop-from : goal.invariant-loop-from
invariant-loop-from l = Writing l.rows l.most l.initial.bands l.bands l.count l.from

abbrev pub decreases-loop-from : goal.decreases-loop-from
decreases-loop-from l = l.rows - l.from
