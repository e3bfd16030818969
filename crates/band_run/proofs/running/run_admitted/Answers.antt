use lib.Seq.{length-take-le}
use Rattle.band_run.proofs.PlanLaws.{few_rows, used_fits, making}
use Rattle.band_run.proofs.running.run_admitted.Goals as goal

pub used_rows-rows-requires : goal.used_rows-rows-requires
used_rows-rows-requires c = few_rows c.requires.0 c.requires.2

pub run_by-report-requires : goal.run_by-report-requires
run_by-report-requires c =
    (c.requires.0, c.requires.1, making c.requires.0 c.requires.2 c.used_rows-rows.ensures c.row_cells-row.ensures c.room_shape-shape.ensures (length-take-le _ _ (used_fits c.requires.0 c.requires.2 c.used_rows-rows.ensures c.row_cells-row.ensures)))
