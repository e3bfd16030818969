use Rattle.cellang.proofs.Telling.{tells_planned}
use Rattle.cellang.proofs.exports.banding.cellang_plan_bands.Goals as goal

pub returns : goal.returns
returns c = tells_planned c.plan_bands-told.ensures c.reply_of-refusal.ensures c.unwrap_or.ensures c.told_part-part.ensures c.put_planned.ensures
