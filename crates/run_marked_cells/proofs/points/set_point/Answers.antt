use Prim.Native.Nat.{◌-◌}
use borrow.Author.Rules.{rules}
use Rattle.run_marked_cells.proofs.PointLaws.{positive_at, walk_more, walk_end}
use Rattle.run_marked_cells.proofs.points.set_point.Goals as goal

pub loop-k-preserved : goal.loop-k-preserved
loop-k-preserved c = walk_more _ _ _ _ _ c.loop-k.invariant c.loop-k-test.true c.requires.positive

pub returns : goal.returns
returns c = walk_end _ _ _ _ _ c.loop-k.invariant c.loop-k-test.false

pub nonzero_rem-point : goal.nonzero_rem-point
nonzero_rem-point c = positive_at c.args.sizes.now (c.loop-k.k - 1) c.requires.positive (search rules)

pub nonzero_div-rest : goal.nonzero_div-rest
nonzero_div-rest c = positive_at c.args.sizes.now (c.loop-k.k - 1) c.requires.positive (search rules)
