use Rattle.cellang.proofs.Telling.{tells_banded}
use Rattle.cellang.proofs.exports.banding.cellang_run_banded.Goals as goal

pub returns : goal.returns
returns c = tells_banded c.ranges.start c.ranges.steps c.run_banded-told.ensures c.tell_report.ensures
