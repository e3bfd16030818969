use Rattle.run_calls.specs.Calls.{memory, lent}
use Rattle.band_run.specs.BandedRun.{banded_lent}
use Rattle.band_run.proofs.LeavingLaws.{unlisted}
use Rattle.band_run.proofs.running.run_banded.Goals as goal

pub returns-then-not-is_built_in : goal.returns-then-not-is_built_in
returns-then-not-is_built_in c =
    rw (c.from-then-not-is_built_in.ensures, c.from.ensures, c.new.ensures)
    (unlisted (banded_lent (lent _ c.args.list.now _ (memory _ _ _ c.args.scratch.now c.args.marks.now c.args.counts.now) c.args.values.now c.args.start c.args.steps c.args.counted c.args.field) c.args.held c.args.plan.now c.args.room.now) c.is_built_in.ensures c.if-not-is_built_in.true-raw)
