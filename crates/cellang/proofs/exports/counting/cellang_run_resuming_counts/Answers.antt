use Rattle.cellang.proofs.Telling.{told_on, tells_ranges}
use Rattle.cellang.proofs.exports.counting.cellang_run_resuming_counts.Goals as goal

pub returns : goal.returns
returns c =
    let t = told_on c.ranges.start c.ranges.steps c.run_told.ensures.tells_run in
    record { tells_run = t; ranges = tells_ranges t }
