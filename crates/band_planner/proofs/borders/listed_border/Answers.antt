use native.Mathlib.Omega.{arith}
use Rattle.band_planner.proofs.BorderLaws.{no_places, place_more, all_places}
use Rattle.band_planner.proofs.borders.listed_border.Goals as goal

pub loop-k-init : goal.loop-k-init
loop-k-init c = λ dims l. no_places c.args.places.now dims

pub loop-k-preserved : goal.loop-k-preserved
loop-k-preserved c =
    let l = c.loop-k in
    place_more c.args.places.now l.k l.invariant c.widened-r.ensures

pub returns : goal.returns
returns c = all_places c.loop-k.invariant (omega (arith, c.loop-k.auto.k-end, c.loop-k-test.false))
