use Rattle.cell_operands.proofs.NotedLaws.{level_at, operator_within}
use Rattle.cell_operands.proofs.scene.Scene.level.Goals as goal

pub returns : goal.returns
returns c =
    let r = c.self.invariant in
    let at = rw (← c.self.view_is) at c.requires in
    rw (← c.self.view_is) (record { is = level_at r _ at c.leaf_word.ensures; within = operator_within r _ at c.leaf_word.ensures; few = r.tokens })
