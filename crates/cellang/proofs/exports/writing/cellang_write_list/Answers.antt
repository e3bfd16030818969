use Rattle.cellang.proofs.Telling.{tells_written}
use Rattle.cellang.proofs.exports.writing.cellang_write_list.Goals as goal

pub returns : goal.returns
returns c = tells_written c.ranges.time c.write_list-told.ensures c.reply_of-refusal.ensures c.unwrap_or.ensures c.told_part-part.ensures c.put_written.ensures
