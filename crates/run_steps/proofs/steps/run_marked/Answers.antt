use mathlib.Core.Path.{◌∙◌, refl}
use native.Mathlib.Omega.{arith}
use Rattle.run_steps.proofs.StepwiseLaws as laws
use Rattle.run_steps.proofs.StepwiseLaws.{loop_start, loop_settable, placed_grid, placed_scratch, placed_marks, loop_ends, loop_step, loop_stops, loop_mark, told_by}
use Rattle.run_steps.proofs.CountLaws.{counts_end, counts_stop, keep_start, keep_block, keep_step}
use Rattle.run_steps.proofs.steps.run_marked.Goals as goal

pub loop-done-init : goal.loop-done-init
loop-done-init c = (loop_start c.requires.0 c.requires.1 c.requires.2 c.requires.3 c.requires.6 c.next_time-next.ensures, keep_start c.requires.4 c.requires.5, refl)

pub set_due-next-requires : goal.set_due-next-requires
set_due-next-requires c = loop_settable c.loop-done.invariant.0

pub returns-then-done-steps : goal.returns-then-done-steps
returns-then-done-steps c =
    record { ran_marked = loop_ends c.loop-done.invariant.0 c.set_due-next.ensures (omega (arith, c.set_due-next.auto.grid)) c.if-done-steps.true c.ended.ensures; counts = counts_end (keep_block c.loop-done.invariant.1 c.set_due-next.ensures c.recounts-anew.ensures c.fill_asked.ensures (omega (arith, c.fill_asked.auto.counts))).tally }

pub one_step-made-requires : goal.one_step-made-requires
one_step-made-requires c = loop_step c.loop-done.invariant.0 c.set_due-next.ensures (omega (arith, c.set_due-next.auto.grid)) c.if-done-steps.false c.loop-done.invariant.2

pub returns-in-Err : goal.returns-in-Err
returns-in-Err c =
    record { ran_marked = loop_stops c.loop-done.invariant.0 c.set_due-next.ensures (omega (arith, c.set_due-next.auto.grid)) c.if-done-steps.false c.one_step-made.ensures c.in-Err.is (c.fill.ensures.after (λ y e. e)); counts = counts_stop (told_by c.loop-done.invariant.0.by) c.one_step-made.ensures c.in-Err.is (keep_block c.loop-done.invariant.1 c.set_due-next.ensures c.recounts-anew.ensures c.fill_asked.ensures (omega (arith, c.fill_asked.auto.counts))).tally }

pub renew_marks-requires : goal.renew_marks-requires
renew_marks-requires c = loop_mark c.loop-done.invariant.0 c.set_due-next.ensures (omega (arith, c.set_due-next.auto.grid)) c.if-done-steps.false c.one_step-made.ensures c.in_default.is

pub loop-done-preserved : goal.loop-done-preserved
loop-done-preserved c = (laws.loop_again c.loop-done.invariant.0 c.set_due-next.ensures (omega (arith, c.set_due-next.auto.grid)) c.if-done-steps.false c.one_step-made.ensures c.in_default.is c.renew_marks.ensures, keep_step (keep_block c.loop-done.invariant.1 c.set_due-next.ensures c.recounts-anew.ensures c.fill_asked.ensures (omega (arith, c.fill_asked.auto.counts))) c.move_asked.ensures (omega (arith, c.move_asked.auto.counts)), (omega (arith, c.one_step-made.auto.room)) ∙ c.loop-done.invariant.2)
