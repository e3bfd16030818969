use Rattle.run_marked_cells.proofs.ScanLaws.{run_marked}
use Rattle.run_marked_cells.proofs.ExchangeLaws.{swapping, turned, swap_part, half_skip, half_run}
use Rattle.run_marked_cells.proofs.exchange.exchange_marked.Goals as goal

pub loop-cell-preserved : goal.loop-cell-preserved
loop-cell-preserved c =
    let l = c.loop-cell in
    let n = c.next_marked-cell-in-loop-cell.ensures in
    let r = c.run_end-past.ensures in
    let at = swapping l.cell _ c.requires r.onward r.within l.invariant.0.size l.invariant.1.size in
    let m = run_marked _ _ _ (l.invariant.3 c.loop-cell-test.true) r in
    let s = swap_part l.a l.b _ _ _ at c.swap_with_slice.ensures.after in
    let t = swap_part l.b l.a _ _ _ (turned at) c.swap_with_slice.ensures.other_after in (
      half_skip _ _ _ _ _ _ _ (half_run _ _ _ _ l.a l.b _ l.cell _ l.invariant.0 l.invariant.1 r.onward m s) n,
      half_skip _ _ _ _ _ _ _ (half_run _ _ _ _ l.b l.a _ l.cell _ l.invariant.1 l.invariant.0 r.onward m t) n,
      n.within,
      n.found,
    )
