use mathlib.Core.Path.{refl, ◌∙◌}
use native.Mathlib.Omega.{arith}
use Rattle.run_marking.proofs.OpenLaws.{shaped, opening_start, opening_more, opening_skip, opening_done}
use Rattle.run_marking.proofs.mark_open.Goals as goal

pub counts_of-counts-requires : goal.counts_of-counts-requires
counts_of-counts-requires c = shaped _ _ _ _ _ _ _ _ c.requires.markable

pub loop-c-init : goal.loop-c-init
loop-c-init c = (opening_skip _ _ _ _ _ _ _ _ c.requires _ _ _ (opening_start _ _ _ _ _ _ _ _ c.requires.markable) c.next_odd-c.ensures, refl, c.counts_of-counts.ensures)

pub open_changed-requires : goal.open_changed-requires
open_changed-requires c = (shaped _ _ _ _ _ _ _ _ c.requires.markable, c.loop-c.invariant.2, c.requires.markable.led, c.requires.markable.few, c.requires.markable.old_fits, c.requires.markable.grid_fits, c.loop-c.invariant.0.len ∙ c.requires.markable.marks_fit, omega (arith, c.requires.markable.marks_fit, c.loop-c-test.true, c.loop-c.invariant.1))

pub overflow_add-c : goal.overflow_add-c
overflow_add-c c = omega (arith, c.loop-c-test.true)

pub loop-c-preserved : goal.loop-c-preserved
loop-c-preserved c = (opening_skip _ _ _ _ _ _ _ _ c.requires _ _ _ (opening_more _ _ _ _ _ _ _ _ c.requires.markable c.loop-c.marks _ c.loop-c.c c.loop-c.invariant.0 (omega (arith, c.loop-c-test.true, c.loop-c.invariant.1)) c.open_changed.ensures) c.next_odd-c-in-loop-c.ensures, c.loop-c.invariant.1, c.loop-c.invariant.2)

pub returns : goal.returns
returns c = opening_done _ _ _ _ _ _ _ _ c.requires c.loop-c.marks _ c.loop-c.c c.loop-c.invariant.0 (omega (arith, c.loop-c-test.false, c.loop-c.invariant.1)) c.halve.ensures
