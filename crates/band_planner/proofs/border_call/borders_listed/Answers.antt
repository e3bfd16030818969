use mathlib.Core.Path.{refl}
use Rattle.run_admission.proofs.Results.{passed}
use Rattle.band_planner.proofs.OpeningLaws.{answered}
use Rattle.band_planner.proofs.BorderCallLaws.{borders_closed, borders_far, borders_answered}
use Rattle.band_planner.proofs.border_call.borders_listed.Goals as goal

pub returns-in_err-opened : goal.returns-in_err-opened
returns-in_err-opened c =
    let y = c.in_err-opened.was in
    borders_closed c.open_rows.ensures y (passed c.from_residual.ensures.1 y)

pub returns-in-Some : goal.returns-in-Some
returns-in-Some c = borders_far c.open_rows.ensures c.in_ok-opened.was c.in-Some.is

pub returns : goal.returns
returns c = borders_answered c.open_rows.ensures c.in_ok-opened.was c.in_default.is refl answered
