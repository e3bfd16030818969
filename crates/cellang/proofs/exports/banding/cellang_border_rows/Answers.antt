use Rattle.cellang.proofs.Telling.{tells_borders}
use Rattle.cellang.proofs.exports.banding.cellang_border_rows.Goals as goal

pub returns : goal.returns
returns c = tells_borders c.borders_of-told.ensures c.reply_of-refusal.ensures c.unwrap_or-border.ensures c.told_part-part.ensures c.put_borders.ensures
