use Rattle.band_run.proofs.RoomLaws.{uneven}
use Rattle.band_run.proofs.rooms.rows_fit.Goals as goal

pub returns-then-room-rows-ne0 : goal.returns-then-room-rows-ne0
returns-then-room-rows-ne0 c = uneven _ _ _ c.if-room-rows-ne0.true
