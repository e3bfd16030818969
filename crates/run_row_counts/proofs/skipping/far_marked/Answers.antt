use native.Mathlib.Omega.{arith}
use Rattle.run_marked_cells.proofs.ScanLaws.{scan_start, scan_found}
use Rattle.run_row_counts.proofs.SkipLaws.{scan_far}
use Rattle.run_row_counts.proofs.skipping.far_marked.Goals as goal

pub returns-then-marks-from-ne0 : goal.returns-then-marks-from-ne0
returns-then-marks-from-ne0 c = scan_found _ _ _ (scan_start _ _ c.requires) c.if-from-cells.true c.if-marks-from-ne0.true

pub loop-at-preserved : goal.loop-at-preserved
loop-at-preserved c = let l = c.loop-at in (scan_far l.invariant.0 (omega (arith, l.invariant.0.within, l.invariant.1, c.loop-at-test.true)) c.sum_from.ensures c.if-sum_from-ne0.false, l.invariant.1)
