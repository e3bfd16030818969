use native.Mathlib.Omega.{arith}
use mathlib.Core.Path.{◌≡◌}
use Rattle.read_source.proofs.Tables.{settled_start, settled_next}
use Rattle.read_source.proofs.settle_values.Goals as goal

pub loop-i-init : goal.loop-i-init
loop-i-init c = settled_start _ _

pub loop-i-preserved : goal.loop-i-preserved
loop-i-preserved c = settled_next _ _ _ _ c.loop-i.invariant c.entry_in.ensures c.settled_value.ensures c.write_value.ensures

pub returns : goal.returns
returns c = let e : c.loop-i.i ≡ c.args.count = omega (arith, c.loop-i.auto.i-end, c.loop-i-test.false) in rw (← e) c.loop-i.invariant.is
