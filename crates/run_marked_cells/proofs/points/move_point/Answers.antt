use Rattle.run_marked_cells.proofs.PointLaws.{move_inside, move_next}
use Rattle.run_marked_cells.proofs.points.move_point.Goals as goal

pub advance-requires : goal.advance-requires
advance-requires c = move_inside c.requires

pub returns-then-after-cell : goal.returns-then-after-cell
returns-then-after-cell c =
    let pre = c.requires in
    move_next pre c.if-after-cell.true c.advance.ensures
