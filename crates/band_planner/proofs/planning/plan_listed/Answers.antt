use Rattle.run_admission.proofs.Results.{passed}
use Rattle.band_planner.proofs.PlanningLaws.{plan_closed, plan_room, plan_far, plan_put}
use Rattle.band_planner.proofs.planning.plan_listed.Goals as goal

pub returns-in_err-opened : goal.returns-in_err-opened
returns-in_err-opened c =
    let y = c.in_err-opened.was in
    plan_closed c.open_rows.ensures y _ _ (passed c.from_residual.ensures.1 y)

pub returns-then-bands-opened : goal.returns-then-bands-opened
returns-then-bands-opened c =
    plan_room c.open_rows.ensures c.in_ok-opened.was _ _ c.if-bands-opened.true c.new.ensures

pub returns-in-Some : goal.returns-in-Some
returns-in-Some c = plan_far c.open_rows.ensures c.in_ok-opened.was _ _ c.if-bands-opened.false c.in-Some.is

pub returns : goal.returns
returns c = plan_put c.open_rows.ensures c.in_ok-opened.was _ _ c.if-bands-opened.false c.in_default.is c.put_plan.ensures
