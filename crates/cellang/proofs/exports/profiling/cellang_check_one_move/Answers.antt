use Rattle.cellang.proofs.Telling.{tells_profile}
use Rattle.cellang.proofs.exports.profiling.cellang_check_one_move.Goals as goal

pub returns : goal.returns
returns c =
    tells_profile _ c.check_one_move.ensures c.from-told.ensures c.put_profile.ensures
