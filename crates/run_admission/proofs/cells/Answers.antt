use mathlib.Core.Path.{sym, ◌∙◌}
use Prim.Native.Nat.{◌-◌}
use native.Mathlib.Omega.{arith}
use lib.ListN.{drop}
use Rattle.run_admission.proofs.RequestLaws.{cells_start, cells_turn, cells_stop, cells_small}
use Rattle.run_admission.proofs.cells.Goals as goal

pub loop-k-init : goal.loop-k-init
loop-k-init c = (cells_start c.args.sizes.now, omega arith)

pub returns-then-total-eq0 : goal.returns-then-total-eq0
returns-then-total-eq0 c =
    let ns = c.args.sizes.now in
    let k = c.loop-k.k in
    let e = cells_turn ns k (omega arith) (omega arith) c.loop-k.invariant.0 c.times-total.ensures in
    sym (cells_stop (k - 1) ns (sym e ∙ c.if-total-eq0.true))

pub loop-k-preserved : goal.loop-k-preserved
loop-k-preserved c =
    let ns = c.args.sizes.now in
    let k = c.loop-k.k in
    let e = cells_turn ns k (omega arith) (omega arith) c.loop-k.invariant.0 c.times-total.ensures in
    (e, omega (arith, e, cells_small (drop (k - 1) ns)))
