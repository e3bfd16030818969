use Prim.Native.Nat.{◌+◌, ◌*◌, ◌-◌, ◌<◌, ◌≤◌}
use mathlib.Core.Path.{◌≡◌}
use lib.ListN.{length, take}
use Rattle.value.specs.Worked.{span_of}
use Rattle.cell_operands.specs.Promises.Scene.{table, env}
use Rattle.cell_statements.proofs.PendingLaws.{Stack, weight}
use Rattle.cell_statements.proofs.StatementLaws.{Progress, Turns}
use Rattle.cell_statements.proofs.blocks.+statements.Given as goal

abbrev pub decreases-block : goal.decreases-block
decreases-block l = 3 * (l.scene.now.site.tokens - l.at) + 2

abbrev pub decreases-forall : goal.decreases-forall
decreases-forall l = 3 * (l.scene.now.site.tokens - l.at)

abbrev pub decreases-statement : goal.decreases-statement
decreases-statement l = 3 * (l.scene.now.site.tokens - l.at) + 1

abbrev pub invariant-block-loop-past : goal.invariant-block-loop-past
invariant-block-loop-past l = Progress (table l.scene) (env l.scene) l.scene.depth l.at (take l.scene.site.slots l.initial.vars) l.initial.next l.initial.index l.here l.ends l.top (take l.scene.site.slots l.vars) l.next l.index × (l.at ≤ l.here) × (l.here ≤ l.scene.site.tokens) × (length l.next ≡ length l.initial.next) × Stack l.at l.scene.site.tokens l.ends l.top

abbrev pub decreases-block-loop-past : goal.decreases-block-loop-past
decreases-block-loop-past l = weight l.scene.site.tokens l.here l.ends l.top

abbrev pub invariant-forall-loop-k : goal.invariant-forall-loop-k
invariant-forall-loop-k l = Turns (table l.scene) (env l.scene) l.scene.depth l.at l.body l.low.n l.count (take l.scene.site.slots l.initial.vars) l.initial.next l.initial.index l.k (take l.scene.site.slots l.vars) l.next l.index × (l.at < l.body) × (l.body ≤ l.scene.site.tokens) × (l.count ≡ span_of l.low.n l.high.n) × (length l.next ≡ length l.initial.next)
