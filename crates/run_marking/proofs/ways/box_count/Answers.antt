use Prim.Native.Nat.{◌-◌, min}
use mathlib.Core.Path.{ap, ◌∙◌}
use Rattle.automaton.specs.Shape.{Bound, width}
use Rattle.run_meaning.specs.Promises.Fitting.{bound_is}
use native.Mathlib.Omega.{arith}
use Rattle.run_meaning.proofs.Theorems.Cutting.{counting_small, counting_done}
use Rattle.run_marking.proofs.WayLaws.{box_start, box_more}
use borrow.Author.Rules.{rules}
use Rattle.run_marking.proofs.ways.box_count.Goals as goal

pub loop-k-init : goal.loop-k-init
loop-k-init c = box_start c.args.bounds c.args.dims

pub times-total-requires : goal.times-total-requires
times-total-requires c = (omega (arith, c.width.ensures), counting_small _ c.loop-k.total c.loop-k.k c.loop-k.invariant)

pub loop-k-preserved : goal.loop-k-preserved
loop-k-preserved c = box_more c.args.bounds c.args.dims c.loop-k.total c.loop-k.k (c.loop-k.k - 1) c.loop-k.invariant (omega (arith, c.loop-k-test.true)) (c.width.ensures ∙ ap (λ (b : Bound). min 257 (width b)) (bound_is c.args.bounds (c.loop-k.k - 1) (omega (arith, c.loop-k-test.true, c.requires)))) c.times-total.ensures

pub returns : goal.returns
returns c = counting_done _ c.loop-k.total c.loop-k.k c.loop-k.invariant (search rules)
