use Prim.Native.Nat.{◌*◌}
use native.Mathlib.Omega.{arith}
use native.Mathlib.Nat.{div-add-mod}
use lib.ListN.{length}
use Rattle.band_planner.specs.Promises.Borders.{border_of}
use Rattle.band_planner.proofs.PlanLaws.{all_left, odd, done, stops, goes_on}
use Rattle.band_planner.proofs.plans.plan_accepted.Goals as goal

pub loop-k-init : goal.loop-k-init
loop-k-init c =
    let a = c.args in
    all_left a.rows (border_of a.border) a.held a.plan.now

pub returns-then-not-band_fits : goal.returns-then-not-band_fits
returns-then-not-band_fits c =
    let l = c.loop-k in
    stops _ _ _ _ (2 * l.k) l.from l.invariant (omega (arith, l.auto.k-end, c.loop-k-test.true, div-add-mod (length c.args.plan.now) 2)) c.band_fits.ensures (c.if-not-band_fits.true)

pub loop-k-preserved : goal.loop-k-preserved
loop-k-preserved c =
    let l = c.loop-k in
    goes_on _ _ _ _ (2 * l.k) l.from l.invariant (omega (arith, l.auto.k-end, c.loop-k-test.true, div-add-mod (length c.args.plan.now) 2)) c.band_fits.ensures (c.if-not-band_fits.false) (omega arith)

pub returns-then-plan-ne0 : goal.returns-then-plan-ne0
returns-then-plan-ne0 c =
    let l = c.loop-k in
    odd _ _ _ _ (2 * l.k) l.from l.invariant (omega (arith, l.auto.k-end, c.loop-k-test.false, div-add-mod (length c.args.plan.now) 2)) (omega (arith, l.auto.k-end, c.loop-k-test.false, div-add-mod (length c.args.plan.now) 2))

pub returns : goal.returns
returns c =
    let l = c.loop-k in
    done _ _ _ _ (2 * l.k) l.from l.invariant (omega (arith, l.auto.k-end, c.loop-k-test.false, div-add-mod (length c.args.plan.now) 2))
