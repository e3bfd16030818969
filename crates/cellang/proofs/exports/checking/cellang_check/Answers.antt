use Rattle.cellang.proofs.Telling.{tells_check}
use Rattle.cellang.proofs.exports.checking.cellang_check.Goals as goal

pub returns : goal.returns
returns c = tells_check _ c.check-told.ensures c.tell_reply.ensures
