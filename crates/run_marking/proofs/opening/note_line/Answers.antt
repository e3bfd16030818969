use Rattle.run_marking.proofs.NotingLaws.{at_first, at_next, noted_start, noted_more, noted_done, note_line}
use Rattle.run_marking.proofs.BoxLaws.{wrapped}
use native.Mathlib.Omega.{arith}
use Rattle.run_marking.proofs.opening.note_line.Goals as goal

pub loop-e-init : goal.loop-e-init
loop-e-init c = (omega arith, c.requires.0, at_first _ _ c.requires.0, noted_start _ _)

pub bounds-marks-c : goal.bounds-marks-c
bounds-marks-c c = let l = c.loop-e in omega (arith, l.invariant.1, l.invariant.3.len, c.requires.2)

pub loop-e-preserved : goal.loop-e-preserved
loop-e-preserved c =
    let l = c.loop-e in (
      omega (arith, c.loop-e-test.true),
      wrapped _ c.next_coordinate-j.ensures (omega (arith, l.invariant.1)),
      at_next _ _ _ l.e l.invariant.2 c.next_coordinate-j.ensures,
      noted_more _ _ l.marks _ l.e l.invariant.3 (note_line _ _ _ l.marks l.j l.e l.invariant.2),
    )

pub returns : goal.returns
returns c = let l = c.loop-e in noted_done _ _ l.marks l.e _ l.invariant.3 (omega (arith, l.invariant.0, c.loop-e-test.false))
