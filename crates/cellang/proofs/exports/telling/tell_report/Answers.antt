use Rattle.cellang.proofs.Telling.{tells_report}
use Rattle.cellang.proofs.exports.telling.tell_report.Goals as goal

pub returns : goal.returns
returns c = tells_report _ c.args.said c.told_part-part.ensures c.put_report.ensures
