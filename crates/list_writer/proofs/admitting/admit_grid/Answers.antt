use Rattle.run_admission.proofs.Results.{passed}
use Rattle.list_writer.proofs.AdmittingLaws.{grid_admitted, grid_refused}
use Rattle.list_writer.proofs.admitting.admit_grid.Goals as goal

pub returns-in_err-admit : goal.returns-in_err-admit
returns-in_err-admit c =
    let e = c.in_err-admit.was in
    grid_refused c.ranges.time c.admit.ensures e (passed c.from_residual.ensures.1 e)

pub returns : goal.returns
returns c = grid_admitted c.ranges.time c.admit.ensures c.in_ok-admit.was
