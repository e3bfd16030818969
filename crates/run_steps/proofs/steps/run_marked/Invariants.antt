use mathlib.Core.Path.{◌≡◌}
use Prim.Native.Nat.{◌-◌, ◌+◌}
use lib.ListN.{length}
use Rattle.run_steps.proofs.StepwiseLaws.{Looping}
use Rattle.run_steps.proofs.CountLaws.{Keeping}
use Rattle.run_steps.proofs.steps.run_marked.Given as goal

abbrev pub invariant-loop-done : goal.invariant-loop-done
invariant-loop-done l =
    Looping l.words l.rule l.sizes l.reach l.all_open l.values l.initial.grid l.initial.scratch l.initial.marks l.start l.steps l.leaves l.backs l.listed l.shape l.bands l.plan (length l.initial.room) l.next l.done l.count l.grid l.scratch l.marks × Keeping l.counted l.rule l.sizes l.field l.grid l.initial.counts l.counts × (length l.room ≡ length l.initial.room)

abbrev pub decreases-loop-done : goal.decreases-loop-done
decreases-loop-done l =
    l.steps + 1 - l.done
