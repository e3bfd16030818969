use Prim.Native.Nat.{◌-◌}
use mathlib.Core.Path.{refl}
use native.Mathlib.Omega.{arith}
use Rattle.run_places.proofs.ChoiceLaws.{choosing_start, choosing_more, choosing_done, span_some, above_ready}
use Rattle.run_places.proofs.vectors.chosen.Goals as goal

pub loop-d-init : goal.loop-d-init
loop-d-init c = choosing_start _ _ _ _ _ refl

pub nonzero_rem-rest : goal.nonzero_rem-rest
nonzero_rem-rest c =
    let a = c.args.loops.now in
    span_some a.lows a.highs a.depth c.args.e c.requires.0 c.requires.1 c.loop-d.d (c.loop-d.d - 1) c.loop-d.auto.d (omega (arith, c.loop-d-test.true)) c.span-n.ensures.is

pub word_above-requires : goal.word_above-requires
word_above-requires c =
    let a = c.args.loops.now in
    above_ready _ _ c.loop-d.rest
    (span_some a.lows a.highs a.depth c.args.e c.requires.0 c.requires.1 c.loop-d.d (c.loop-d.d - 1) c.loop-d.auto.d (omega (arith, c.loop-d-test.true)) c.span-n.ensures.is) c.span-n.ensures

pub nonzero_div-rest : goal.nonzero_div-rest
nonzero_div-rest c =
    let a = c.args.loops.now in
    span_some a.lows a.highs a.depth c.args.e c.requires.0 c.requires.1 c.loop-d.d (c.loop-d.d - 1) c.loop-d.auto.d (omega (arith, c.loop-d-test.true)) c.span-n.ensures.is

pub loop-d-preserved : goal.loop-d-preserved
loop-d-preserved c =
    let a = c.args.loops.now in
    choosing_more a.lows a.highs a.depth c.args.e c.requires.0 c.requires.1 c.loop-d.r c.loop-d.rest c.loop-d.d (c.loop-d.d - 1) c.word_above.result (omega (arith, a.deep, c.loop-d.auto.d))
    c.loop-d.auto.d c.loop-d.invariant (omega (arith, c.loop-d-test.true)) c.span-n.ensures.is c.word_above.ensures

pub returns : goal.returns
returns c =
    let a = c.args.loops.now in
    choosing_done a.lows a.highs a.depth c.args.e c.requires.0 c.requires.1 c.loop-d.r c.loop-d.rest c.loop-d.d c.loop-d.invariant (omega (arith, c.loop-d-test.false))
