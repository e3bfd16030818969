use Rattle.run_place_marks.proofs.PlacingLaws.{cell_below, note_more, note_none}
use mathlib.Core.Path.{refl, ◌∙◌}
use native.Mathlib.Omega.{arith}
use lib.ListN.{length-set}
use borrow.Author.Rules.{rules}
use Rattle.run_place_marks.proofs.note_steps.Goals as goal

pub loop-k-init : goal.loop-k-init
loop-k-init c = record { low = omega arith; len = refl; is = note_none _ _ _ _ }

pub bounds-marks-c : goal.bounds-marks-c
bounds-marks-c c =
    let l = c.loop-k in
    omega (arith, cell_below _ _ _ _ (c.requires.0 l.k (search rules)), c.cell_at-c.ensures, l.invariant.len, c.requires.2)

pub bounds-marks-c-in-loop-k : goal.bounds-marks-c-in-loop-k
bounds-marks-c-in-loop-k c =
    let l = c.loop-k in
    omega (arith, cell_below _ _ _ _ (c.requires.0 l.k (search rules)), c.cell_at-c.ensures, l.invariant.len, c.requires.2)

pub loop-k-preserved : goal.loop-k-preserved
loop-k-preserved c =
    let l = c.loop-k in
    record { low = search rules; len = length-set l.marks _ _ ∙ l.invariant.len; is = note_more _ _ _ _ l.marks l.k _ l.invariant.is c.cell_at-c.ensures }
