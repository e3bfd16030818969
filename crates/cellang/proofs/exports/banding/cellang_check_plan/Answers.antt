use Rattle.cellang.proofs.Telling.{tells_plan_check}
use Rattle.cellang.proofs.exports.banding.cellang_check_plan.Goals as goal

pub returns : goal.returns
returns c = tells_plan_check c.check_plan.ensures c.reply_of-told.ensures c.tell_reply.ensures
