use Rattle.cellang.proofs.Telling.{tells_reply}
use Rattle.cellang.proofs.exports.telling.tell_reply.Goals as goal

pub returns : goal.returns
returns c = tells_reply _ c.told_part-part.ensures c.put_reply.ensures
