use Prim.Native.Nat.{ℕ, ◌/◌}
use native.Mathlib.Omega.{arith}
use mathlib.Core.Path.{ap, ◌∙◌}
use Rattle.run_row_counts.proofs.MoveLaws.{row_begins, moved_start, moved_skip, cell_countable, moved_cell, moved_all}
use Rattle.run_row_counts.proofs.counting.move_counts.Goals as goal

pub loop-cell-init : goal.loop-cell-init
loop-cell-init c =
    let next = c.far_marked-cell.ensures in
    (λ m. moved_skip m (moved_start m) next, omega arith, next.within, next.found)

pub count_cell-requires : goal.count_cell-requires
count_cell-requires c =
    let pre = c.requires in
    let l = c.loop-cell in
    let going = c.loop-cell-test.true in
    cell_countable pre (l.invariant.0 pre) going (l.invariant.3 going) (c.row_from-row.ensures ∙ ap (λ (x : ℕ). c.loop-cell.cell / x) c.row_cells-cells.ensures)

pub loop-cell-preserved : goal.loop-cell-preserved
loop-cell-preserved c =
    let next = c.far_marked-cell-in-loop-cell.ensures in
    let going = c.loop-cell-test.true in
    let l = c.loop-cell in (
      λ m. moved_skip m (moved_cell m (l.invariant.0 m) going (l.invariant.3 going) (c.row_from-row.ensures ∙ ap (λ (x : ℕ). c.loop-cell.cell / x) c.row_cells-cells.ensures) c.count_cell.ensures) next,
      omega (arith, row_begins _ l.cell c.row_from-row.ensures, next.onward),
      next.within,
      next.found,
    )

pub returns : goal.returns
returns c = let pre = c.requires in moved_all pre (c.loop-cell.invariant.0 pre) c.loop-cell-test.false
