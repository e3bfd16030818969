use borrow.Author.Rules.{rules}
use Rattle.run_marked_cells.proofs.ScanLaws.{scan_found, scan_more}
use Rattle.run_marked_cells.proofs.scan.next_marked.Goals as goal

pub returns-then-marks-at-ne0 : goal.returns-then-marks-at-ne0
returns-then-marks-at-ne0 c = scan_found _ _ _ c.loop-at.invariant.0 (search rules) c.if-marks-at-ne0.true

pub loop-at-preserved : goal.loop-at-preserved
loop-at-preserved c =
    let l = c.loop-at in
    (scan_more _ _ _ l.invariant.0 (search rules) (search rules) c.skip_clear-at.ensures, l.invariant.1)
