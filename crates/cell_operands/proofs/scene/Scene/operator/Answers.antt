use mathlib.Core.Path.{refl}
use Rattle.cell_operands.proofs.NotedLaws.{level_at, operator_at}
use Rattle.cell_operands.proofs.scene.Scene.operator.Goals as goal

pub returns : goal.returns
returns c =
    let r = c.self.invariant in
    let pre = rw (← c.self.view_is) at c.requires in
    rw (← c.self.view_is) (operator_at r _ pre.0 refl (rw (level_at r _ pre.0 refl) pre.1) c.leaf_word.ensures)
