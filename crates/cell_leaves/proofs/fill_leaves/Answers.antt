use native.Mathlib.Omega.{arith}
use Rattle.cell_leaves.proofs.WritingLaws.{filled_more}
use Rattle.cell_leaves.proofs.ShapingLaws.{filled_linked, filled_leaves}
use Rattle.cell_leaves.proofs.fill_leaves.Goals as goal

pub loop-p-preserved : goal.loop-p-preserved
loop-p-preserved c =
    filled_more _ _ _ _ _ c.requires.2 c.loop-p.invariant (omega (arith, c.loop-p-test.true)) c.write_leaf.ensures

pub write_shapes-requires : goal.write_shapes-requires
write_shapes-requires c =
    let pre = c.requires in
    (pre.1, filled_linked _ _ _ _ _ c.loop-p.invariant (omega (arith, c.loop-p-test.false)))

pub returns : goal.returns
returns c =
    let pre = c.requires in
    filled_leaves _ _ _ _ _ c.loop-p.invariant (omega (arith, c.loop-p-test.false)) pre.2
    c.write_shapes.ensures
