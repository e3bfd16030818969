use Prim.Native.Nat.{◌*◌, ◌<◌}
use native.Mathlib.Omega.{arith}
use mathlib.Core.Path.{sym, ap, ◌∙◌}
use lib.ListN.{get_or}
use Rattle.run_row_counts.proofs.CountLaws.{counts_are, rowed, row_countable, all_counted}
use Rattle.run_row_counts.proofs.counting.fill_counts.Goals as goal

pub count_row-requires : goal.count_row-requires
count_row-requires c =
    let next : c.loop-row.row < get_or c.args.sizes.now 0 0 = omega (arith, c.loop-row.invariant.len, c.loop-row-test.true) in
    row_countable (rowed c.requires) next (ap (λ n. c.loop-row.row * n) c.row_cells-cells.ensures) c.row_cells-cells.ensures

pub returns : goal.returns
returns c =
    let l = c.loop-row in
    all_counted _ _ _ _ l.invariant (omega (arith, l.invariant.len, c.loop-row-test.false)) (omega arith)
    ∙ sym (counts_are c.args.sizes.now _ _ _ c.requires.some_dims)
