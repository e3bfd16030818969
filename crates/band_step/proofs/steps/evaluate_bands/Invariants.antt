use Prim.Native.Nat.{◌-◌}
use lib.ListN.{length}
use Rattle.band_meaning.specs.Bounds.{bound}
use Rattle.band_step.specs.Promises.Bandwise.{Bordered}
use Rattle.band_step.proofs.AllBands.{Underway}
use Rattle.band_step.proofs.steps.evaluate_bands.Given as goal

abbrev pub invariant-loop-k : goal.invariant-loop-k
invariant-loop-k l =
    Underway (Bordered l.words l.rule (bound l.before l.behind)) l.rule l.sizes l.shape l.row (bound l.before l.behind) l.plan l.grid l.initial.scratch l.initial.room l.time l.count l.k l.total l.scratch l.room

abbrev pub decreases-loop-k : goal.decreases-loop-k
decreases-loop-k l =
    length l.plan - l.k
