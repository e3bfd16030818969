use mathlib.Core.Path.{◌≡◌, ap, ◌∙◌}
use native.Mathlib.Omega.{arith}
use Rattle.names.specs.Names.{variables_in}
use Rattle.names.proofs.Removing.{none_yet}
use Rattle.names.proofs.count_variables.Goals as goal

pub loop-i-init : goal.loop-i-init
loop-i-init c = (none_yet c.args.names.now, omega arith, omega arith, omega arith)

pub returns : goal.returns
returns c = let e : c.loop-i.i ≡ c.args.n = omega arith in c.loop-i.invariant.0 ∙ ap (variables_in c.args.names.now) e
