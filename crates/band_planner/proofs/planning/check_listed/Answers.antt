use mathlib.Core.Path.{refl}
use Rattle.run_admission.proofs.Results.{passed}
use Rattle.band_planner.proofs.OpeningLaws.{answered}
use Rattle.band_planner.proofs.PlanningLaws.{check_closed, check_far, check_answered, check_not_taken}
use Rattle.band_planner.proofs.planning.check_listed.Goals as goal

pub returns-in_err-opened : goal.returns-in_err-opened
returns-in_err-opened c =
    let y = c.in_err-opened.was in
    check_closed c.open_rows.ensures y _ _ (passed c.from_residual.ensures.1 y)

pub returns-in-Some : goal.returns-in-Some
returns-in-Some c = check_far c.open_rows.ensures c.in_ok-opened.was _ c.in-Some.is _

pub returns-then-not-plan_accepted : goal.returns-then-not-plan_accepted
returns-then-not-plan_accepted c =
    check_not_taken c.open_rows.ensures c.in_ok-opened.was _ c.in_default.is _ c.plan_accepted.ensures c.if-not-plan_accepted.true-raw c.new.ensures

pub returns : goal.returns
returns c = check_answered c.open_rows.ensures c.in_ok-opened.was _ c.in_default.is _ c.plan_accepted.ensures c.if-not-plan_accepted.false-raw refl answered
