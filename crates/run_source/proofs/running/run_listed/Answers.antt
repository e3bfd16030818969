use native.Mathlib.Omega.{arith}
use lib.ListN.{length}
use Rattle.token.specs.Lexeme.{built_in_names}
use Rattle.run_calls.specs.Calls.{memory, lent}
use Rattle.run_source.proofs.RunLaws.{closed_run, run_ready, run_done, cast_start, cast_steps, read_times, the_list}
use Rattle.run_source.proofs.running.run_listed.Goals as goal

pub returns-in-Err : goal.returns-in-Err
returns-in-Err c =
    rw c.from.ensures
    record { each = λ list e. read_times c.ranges.start c.ranges.steps (closed_run (lent _ list _ (memory _ _ _ c.args.scratch.now c.args.marks.now c.args.counts.now) c.args.values.now _ _ c.args.counted c.args.field) e c.open_run.ensures c.args.manner c.in-Err.is) }

pub overflow_cast-start : goal.overflow_cast-start
overflow_cast-start c =
    cast_start (lent _ built_in_names _ (memory _ _ _ c.args.scratch.now c.args.marks.now c.args.counts.now) c.args.values.now _ _ c.args.counted c.args.field) the_list c.open_run.ensures c.args.manner c.in-Ok.is

pub overflow_cast-steps : goal.overflow_cast-steps
overflow_cast-steps c =
    cast_steps (lent _ built_in_names _ (memory _ _ _ c.args.scratch.now c.args.marks.now c.args.counts.now) c.args.values.now _ _ c.args.counted c.args.field) the_list c.open_run.ensures c.args.manner c.in-Ok.is

pub run_steps-report-requires : goal.run_steps-report-requires
run_steps-report-requires c =
    run_ready (lent _ built_in_names _ (memory _ _ _ c.args.scratch.now c.args.marks.now c.args.counts.now) c.args.values.now _ _ c.args.counted c.args.field) the_list c.open_run.ensures c.args.manner c.in-Ok.is

pub returns : goal.returns
returns c =
    record {
      each = λ list e. read_times c.ranges.start c.ranges.steps
          (run_done (lent _ list _ (memory _ _ _ c.args.scratch.now c.args.marks.now c.args.counts.now) c.args.values.now _ _ c.args.counted c.args.field) e c.open_run.ensures c.args.manner c.in-Ok.is (length c.run_steps-report.new.scratch)
          c.all_open-all.ensures c.resumes.ensures c.run_steps-report.ensures.ran (c.fill.ensures.after (λ y e. e)) (omega (arith, c.fill.auto, c.run_steps-report.auto.scratch)) (omega (arith, c.run_steps-report.auto.marks)) c.leave_marks.ensures c.run_steps-report.ensures.counts);
    }
