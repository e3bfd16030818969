use Rattle.cellang.proofs.Telling.{tells_run, tells_ranges, tells_agrees}
use Rattle.cellang.proofs.exports.telling.run_told.Goals as goal

pub returns : goal.returns
returns c =
    let t = tells_run c.ranges.start c.ranges.steps c.run-said.ensures.run_leaves c.tell_report.ensures in
    record { tells_run = t; ranges = tells_ranges t; agrees = tells_agrees c.args.manner t }
