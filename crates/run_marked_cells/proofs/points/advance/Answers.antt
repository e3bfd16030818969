use Prim.Native.Nat.{◌-◌}
use borrow.Author.Rules.{rules}
use Rattle.run_marked_cells.proofs.PointLaws.{carry_start, carry_below, carry_more, carry_stop}
use Rattle.run_marked_cells.proofs.points.advance.Goals as goal

pub loop-k-init : goal.loop-k-init
loop-k-init c = carry_start _ _ c.requires

pub overflow_add-up : goal.overflow_add-up
overflow_add-up c =
    let l = c.loop-k in
    let b = carry_below _ _ _ _ l.invariant c.loop-k-test.true in
    let s = c.type_inv.sizes (l.k - 1) in
    search rules

pub returns-then-up-sizes : goal.returns-then-up-sizes
returns-then-up-sizes c = carry_stop _ _ _ _ c.loop-k.invariant c.loop-k-test.true c.if-up-sizes.true

pub loop-k-preserved : goal.loop-k-preserved
loop-k-preserved c = carry_more _ _ _ _ c.loop-k.invariant c.loop-k-test.true c.if-up-sizes.false
