use Rattle.list_reader.proofs.PointLaws.{place_again, place_found}
use Rattle.list_reader.proofs.points.read_point.Goals as goal

pub returns-then-k-sizes : goal.returns-then-k-sizes
returns-then-k-sizes c =
    place_found c.args.sizes.now c.args.line.now c.loop-k.invariant c.in_ok-index.ensures c.loop-k-test.true c.requires c.joined-cell.ensures c.if-sign-eq93.true c.if-k-sizes.true

pub loop-k-preserved : goal.loop-k-preserved
loop-k-preserved c =
    place_again c.args.sizes.now c.args.line.now c.loop-k.invariant c.in_ok-index.ensures c.loop-k-test.true c.requires c.joined-cell.ensures c.if-sign-ne44.false
