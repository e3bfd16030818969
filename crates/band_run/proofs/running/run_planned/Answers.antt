use native.Mathlib.Omega.{arith}
use mathlib.Core.Path.{refl}
use lib.ListN.{length}
use Rattle.token.specs.Lexeme.{built_in_names}
use Rattle.run_calls.specs.Calls.{memory, lent}
use Rattle.run_steps.specs.declared.Manner.TheVariants.{Full}
use Rattle.run_source.proofs.RunLaws.{run_ready, run_done, cast_start, cast_steps, the_list}
use Rattle.band_run.specs.BandedRun.{banded_lent}
use Rattle.band_run.proofs.LeavingLaws.{closed_run, some_sizes, opened_full, other_plan, under_plan, planned_done, read_times}
use Rattle.band_run.proofs.running.run_planned.Goals as goal

pub returns-in-Err : goal.returns-in-Err
returns-in-Err c =
    rw c.from.ensures
    record { each = λ list e. let l = banded_lent (lent _ list _ (memory _ _ _ c.args.scratch.now c.args.marks.now c.args.counts.now) c.args.values.now _ _ c.args.counted c.args.field) c.args.held c.args.plan.now c.args.room.now in read_times c.ranges.start c.ranges.steps (closed_run l e c.tried_length-tried.ensures c.open_run.ensures c.in-Err.is) }

pub returns-then-not-plan_accepted : goal.returns-then-not-plan_accepted
returns-then-not-plan_accepted c =
    rw (c.from-then-not-plan_accepted-2.ensures, c.from-then-not-plan_accepted.ensures, c.new.ensures)
    record { each = λ list e. let l = banded_lent (lent _ list _ (memory _ _ _ c.args.scratch.now c.args.marks.now c.args.counts.now) c.args.values.now _ _ c.args.counted c.args.field) c.args.held c.args.plan.now c.args.room.now in read_times c.ranges.start c.ranges.steps (other_plan l e c.tried_length-tried.ensures c.open_run.ensures c.in-Ok.is c.border_rows-border.ensures c.plan_accepted.ensures c.if-not-plan_accepted.true-raw) }

pub bounds-sizes-0 : goal.bounds-sizes-0
bounds-sizes-0 c =
    let l = banded_lent (lent _ built_in_names _ (memory _ _ _ c.args.scratch.now c.args.marks.now c.args.counts.now) c.args.values.now _ _ c.args.counted c.args.field) c.args.held c.args.plan.now c.args.room.now in
    some_sizes l the_list c.tried_length-tried.ensures c.open_run.ensures c.in-Ok.is

pub overflow_cast-start : goal.overflow_cast-start
overflow_cast-start c =
    let l = banded_lent (lent _ built_in_names _ (memory _ _ _ c.args.scratch.now c.args.marks.now c.args.counts.now) c.args.values.now _ _ c.args.counted c.args.field) c.args.held c.args.plan.now c.args.room.now in
    cast_start l.run the_list (opened_full l the_list c.tried_length-tried.ensures c.open_run.ensures c.in-Ok.is) Full c.in-Ok.is

pub overflow_cast-steps : goal.overflow_cast-steps
overflow_cast-steps c =
    let l = banded_lent (lent _ built_in_names _ (memory _ _ _ c.args.scratch.now c.args.marks.now c.args.counts.now) c.args.values.now _ _ c.args.counted c.args.field) c.args.held c.args.plan.now c.args.room.now in
    cast_steps l.run the_list (opened_full l the_list c.tried_length-tried.ensures c.open_run.ensures c.in-Ok.is) Full c.in-Ok.is

pub run_admitted-report-requires : goal.run_admitted-report-requires
run_admitted-report-requires c =
    let l = banded_lent (lent _ built_in_names _ (memory _ _ _ c.args.scratch.now c.args.marks.now c.args.counts.now) c.args.values.now _ _ c.args.counted c.args.field) c.args.held c.args.plan.now c.args.room.now in
    let ready = run_ready l.run the_list (opened_full l the_list c.tried_length-tried.ensures c.open_run.ensures c.in-Ok.is) Full c.in-Ok.is in
    (ready.0, ready.1, under_plan l the_list c.tried_length-tried.ensures c.open_run.ensures c.in-Ok.is c.border_rows-border.ensures c.plan_accepted.ensures c.if-not-plan_accepted.false-raw)

pub returns : goal.returns
returns c =
    record {
      each = λ list e.
          let l = banded_lent (lent _ list _ (memory _ _ _ c.args.scratch.now c.args.marks.now c.args.counts.now) c.args.values.now _ _ c.args.counted c.args.field) c.args.held c.args.plan.now c.args.room.now in
          read_times c.ranges.start c.ranges.steps
          (planned_done l e c.tried_length-tried.ensures c.open_run.ensures c.in-Ok.is c.border_rows-border.ensures c.plan_accepted.ensures c.if-not-plan_accepted.false-raw
          (run_done l.run e (opened_full l e c.tried_length-tried.ensures c.open_run.ensures c.in-Ok.is) Full c.in-Ok.is (length c.run_admitted-report.new.scratch) refl refl c.run_admitted-report.ensures.ran (c.fill.ensures.after (λ y e. e))
          (omega (arith, c.fill.auto.self, c.run_admitted-report.auto.scratch)) (omega (arith, c.run_admitted-report.auto.marks)) (c.fill-2.ensures.after (λ y e. e)) c.run_admitted-report.ensures.counts)
          c.run_admitted-report.ensures.room);
    }
