use Rattle.band_planner.specs.Promises.Borders.{border_of}
use Rattle.band_planner.specs.Promises.Plans.{band_told}
use Rattle.band_call.proofs.AskingLaws.{right_knows, is_right}
use Rattle.band_call.proofs.asking.refused_band.Goals as goal

pub rooms_right-requires : goal.rooms_right-requires
rooms_right-requires c = (c.requires.0, c.requires.1, (right_knows c.args.rows (border_of c.args.border) c.args.held (band_told c.args.band) (is_right c.band_right.ensures c.if-not-band_right.false-raw)).0)
