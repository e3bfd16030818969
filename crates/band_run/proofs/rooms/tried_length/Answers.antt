use native.Mathlib.Omega.{arith}
use mathlib.Core.Path.{sym}
use Rattle.band_run.proofs.RoomLaws.{tried_right, tried_wrong}
use Rattle.band_run.proofs.rooms.tried_length.Goals as goal

pub returns-then-room_fits : goal.returns-then-room_fits
returns-then-room_fits c = tried_right c.room_fits.ensures c.if-room_fits.true

pub returns-then-entries-eq0 : goal.returns-then-entries-eq0
returns-then-entries-eq0 c = tried_wrong c.room_fits.ensures c.if-room_fits.false (λ e. omega (arith, e))

pub returns : goal.returns
returns c = tried_wrong c.room_fits.ensures c.if-room_fits.false (λ e. c.if-entries-eq0.false (sym e))
