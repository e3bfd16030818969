use mathlib.Core.Path.{sym, ◌∙◌}
use Rattle.list_writer.specs.WriterCalls.{wanted}
use Rattle.cellang.proofs.Telling.{read_time}
use Rattle.cellang.proofs.StoreLaws.{nothing_written, written_stored}
use Rattle.cellang.proofs.writing.write_list.Goals as goal

pub returns-then-not-row_fits : goal.returns-then-not-row_fits
returns-then-not-row_fits c = nothing_written _ c.args.list.now _ _ (wanted _ _ _ c.args.time) _ (sym c.row_fits.ensures.fits ∙ c.if-not-row_fits.true) c.new.ensures

pub returns : goal.returns
returns c =
    written_stored _ c.args.list.now _ _ (wanted _ _ _ c.args.time) _ (sym c.row_fits.ensures.fits ∙ c.if-not-row_fits.false) (read_time c.ranges.time c.write_list-written.ensures) c.store_row.ensures
