use Prim.Native.Nat.{◌-◌}
use lib.ListN.{take}
use Rattle.cell_operands.specs.Promises.Scene.{table, env}
use Rattle.cell_statements.proofs.StatementLaws.{Arms}
use Rattle.cell_statements.proofs.blocks.choose.Given as goal

abbrev pub invariant-loop-condition : goal.invariant-loop-condition
invariant-loop-condition l =
    Arms (table l.scene) (env l.scene) (take l.scene.depth l.index) l.scene.depth l.scene.site.tokens l.at (take l.scene.site.slots l.vars) l.arm

abbrev pub decreases-loop-condition : goal.decreases-loop-condition
decreases-loop-condition l = l.scene.site.tokens - l.arm
