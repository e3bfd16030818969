use Rattle.band_run.proofs.RoomLaws.{fits_rows}
use Rattle.band_run.proofs.rooms.room_fits.Goals as goal

pub returns : goal.returns
returns c = fits_rows _ _ _ _ c.rows_fit.ensures
