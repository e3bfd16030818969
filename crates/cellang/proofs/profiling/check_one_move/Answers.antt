use mathlib.Core.Path.{sym, ◌∙◌}
use Rattle.move_meaning.specs.Profile.{one_move}
use Rattle.cellang.proofs.StoreLaws.{turned_profile, nothing_read, read_stored}
use Rattle.cellang.proofs.profiling.check_one_move.Goals as goal

pub returns-then-not-row_fits : goal.returns-then-not-row_fits
returns-then-not-row_fits c = nothing_read one_move _ c.args.list.now _ _ (sym c.row_fits.ensures.fits ∙ c.if-not-row_fits.true) (turned_profile _ c.new.ensures)

pub returns : goal.returns
returns c =
    let h = c.check_one_move-answer.ensures in
    read_stored one_move _ c.args.list.now _ _ (sym c.row_fits.ensures.fits ∙ c.if-not-row_fits.false) h.answer h.words h.names c.store_row.ensures
