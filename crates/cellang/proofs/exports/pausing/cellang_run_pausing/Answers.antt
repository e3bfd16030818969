use Rattle.run_source.proofs.Theorems.Property3.{paused_agrees}
use Rattle.cellang.proofs.Telling.{told_on, tells_ranges, told_plain}
use Rattle.cellang.proofs.exports.pausing.cellang_run_pausing.Goals as goal

pub returns : goal.returns
returns c =
    let t = told_plain (told_on c.ranges.start c.ranges.steps c.run_told.ensures.tells_run) in
    record { tells_run = t; ranges = tells_ranges t; agrees = paused_agrees _ _ _ }
