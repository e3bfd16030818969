use mathlib.Core.Path.{◌∙◌}
use native.Mathlib.Omega.{arith}
use Rattle.run_marking.proofs.OpenLaws.{shaped, opening_start, opening_more, changed_done}
use Rattle.run_marking.proofs.mark_changed.Goals as goal

pub counts_of-counts-requires : goal.counts_of-counts-requires
counts_of-counts-requires c = shaped _ _ _ _ _ _ _ _ c.requires

pub loop-c-init : goal.loop-c-init
loop-c-init c = (opening_start _ _ _ _ _ _ _ _ c.requires, c.counts_of-counts.ensures)

pub open_changed-requires : goal.open_changed-requires
open_changed-requires c =
    let p = c.requires in
    let l = c.loop-c in
    (shaped _ _ _ _ _ _ _ _ p, l.invariant.1, p.led, p.few, p.old_fits, p.grid_fits, l.invariant.0.len ∙ p.marks_fit, omega (arith, p.marks_fit, c.loop-c-test.true))

pub loop-c-preserved : goal.loop-c-preserved
loop-c-preserved c =
    let l = c.loop-c in
    (opening_more _ _ _ _ _ _ _ _ c.requires l.marks _ l.c l.invariant.0 (omega (arith, c.loop-c-test.true)) c.open_changed.ensures, l.invariant.1)

pub returns : goal.returns
returns c =
    let l = c.loop-c in
    changed_done _ _ _ _ _ _ _ _ c.requires l.marks _ l.c l.invariant.0 (omega (arith, c.loop-c-test.false)) c.flag_marks.ensures
