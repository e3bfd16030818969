use mathlib.Core.Path.{ap}
use Rattle.run_admission.specs.Promises.Admitting.{number_told}
use Rattle.run_admission.proofs.Results.{passed}
use Rattle.band_call.specs.BandCall.{band_asked}
use Rattle.band_call.proofs.CallLaws.{read_refuses, band_closed, divisible, row_few, band_refused, band_far, rows_few, band_out, band_done}
use Rattle.band_call.proofs.calling.admit_band.Goals as goal

pub returns-in_err-opened : goal.returns-in_err-opened
returns-in_err-opened c =
    let q = band_asked c.args.sizes.now c.args.band.first c.args.band.last c.args.held c.args.rows.now c.args.room.now c.args.time in
    let y = c.in_err-opened.was in
    band_closed q c.open_rows.ensures y (passed c.from_residual.ensures.1 y)

pub row_cells-requires : goal.row_cells-requires
row_cells-requires c =
    let q = band_asked c.args.sizes.now c.args.band.first c.args.band.last c.args.held c.args.rows.now c.args.room.now c.args.time in
    divisible q c.open_rows.ensures c.in_ok-opened.was

pub refused_band-asked-requires : goal.refused_band-asked-requires
refused_band-asked-requires c =
    let q = band_asked c.args.sizes.now c.args.band.first c.args.band.last c.args.held c.args.rows.now c.args.room.now c.args.time in
    row_few q c.open_rows.ensures c.in_ok-opened.was c.row_cells.ensures

pub returns-in-Err : goal.returns-in-Err
returns-in-Err c =
    let q = band_asked c.args.sizes.now c.args.band.first c.args.band.last c.args.held c.args.rows.now c.args.room.now c.args.time in
    band_refused q c.open_rows.ensures c.in_ok-opened.was c.row_cells.ensures (read_refuses c.ranges.time c.refused_band-asked.ensures) _ (ap number_told c.in-Err.is) c.new.ensures

pub returns-in-Some : goal.returns-in-Some
returns-in-Some c =
    let q = band_asked c.args.sizes.now c.args.band.first c.args.band.last c.args.held c.args.rows.now c.args.room.now c.args.time in
    band_far q c.open_rows.ensures c.in_ok-opened.was c.row_cells.ensures (read_refuses c.ranges.time c.refused_band-asked.ensures) (ap number_told c.in_default.is) c.in-Some.is

pub out_of_field-requires : goal.out_of_field-requires
out_of_field-requires c =
    let q = band_asked c.args.sizes.now c.args.band.first c.args.band.last c.args.held c.args.rows.now c.args.room.now c.args.time in
    let o = c.open_rows.ensures.opened _ c.in_ok-opened.was in
    (o.rule_fits, o.some_fields, rows_few q c.open_rows.ensures c.in_ok-opened.was c.row_cells.ensures (read_refuses c.ranges.time c.refused_band-asked.ensures) (ap number_told c.in_default.is) c.in_default-far.is)

pub returns-in_err-out_of_field : goal.returns-in_err-out_of_field
returns-in_err-out_of_field c =
    let q = band_asked c.args.sizes.now c.args.band.first c.args.band.last c.args.held c.args.rows.now c.args.room.now c.args.time in
    let y = c.in_err-out_of_field.was in
    band_out q c.open_rows.ensures c.in_ok-opened.was c.row_cells.ensures (read_refuses c.ranges.time c.refused_band-asked.ensures) (ap number_told c.in_default.is) c.in_default-far.is c.out_of_field.ensures y (passed c.from_residual-in_err-out_of_field.ensures.1 y)

pub returns : goal.returns
returns c =
    let q = band_asked c.args.sizes.now c.args.band.first c.args.band.last c.args.held c.args.rows.now c.args.room.now c.args.time in
    band_done q c.open_rows.ensures c.in_ok-opened.was c.row_cells.ensures (read_refuses c.ranges.time c.refused_band-asked.ensures) (ap number_told c.in_default.is) c.in_default-far.is c.out_of_field.ensures c.in_ok-out_of_field.was
