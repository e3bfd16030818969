use Prim.Native.Nat.{◌-◌}
use native.Mathlib.Omega.{arith}
use Rattle.run_places.proofs.ChoiceLaws.{choices_start, choices_more}
use Rattle.run_places.proofs.vectors.choices.Goals as goal

pub loop-d-init : goal.loop-d-init
loop-d-init c = let a = c.args.loops.now in choices_start a.lows a.highs a.depth

pub loop-d-preserved : goal.loop-d-preserved
loop-d-preserved c =
    let a = c.args.loops.now in
    choices_more a.lows a.highs a.depth c.loop-d.total c.loop-d.d (c.loop-d.d - 1) c.loop-d.invariant (omega (arith, c.loop-d-test.true)) c.span.ensures.is c.times-total.ensures
