use Rattle.cellang.proofs.Telling.{tells_band}
use Rattle.cellang.proofs.exports.banding.cellang_step_band.Goals as goal

pub returns : goal.returns
returns c = tells_band c.ranges.time c.step_band-told.ensures c.tell_report.ensures
