use Rattle.band_planner.specs.Promises.Borders.{border_of}
use Rattle.band_planner.specs.Promises.Plans.{band_told}
use Rattle.band_call.proofs.AskingLaws.{reversed, past_end, by_held}
use Rattle.band_call.proofs.asking.band_right.Goals as goal

pub returns : goal.returns
returns c = by_held c.args.rows (border_of c.args.border) c.args.held (band_told c.args.band) c.if-band.false c.if-rows-band.false c.rows_with.ensures

pub returns-then-band : goal.returns-then-band
returns-then-band c = reversed c.args.rows (border_of c.args.border) c.args.held (band_told c.args.band) c.if-band.true

pub returns-then-rows-band : goal.returns-then-rows-band
returns-then-rows-band c = past_end c.args.rows (border_of c.args.border) c.args.held (band_told c.args.band) c.if-band.false c.if-rows-band.true
