use Rattle.run_marking.proofs.PlaceLaws.{counts_fit}
use Rattle.run_marking.proofs.OpenLaws.{below_of, boxed_whole, box_done}
use Rattle.run_marking.proofs.opening.open_box.Goals as goal

pub firsts_of-firsts-requires : goal.firsts_of-firsts-requires
firsts_of-firsts-requires c = (c.requires.0, below_of _ _ c.requires.0.positive c.requires.3 c.coordinates_of-at.ensures)

pub note_box-requires : goal.note_box-requires
note_box-requires c = (boxed_whole _ _ c.requires.0 _ c.coordinates_of-at.ensures c.firsts_of-firsts.ensures c.requires.1 _ c.requires.2, counts_fit c.requires.1)

pub returns : goal.returns
returns c = box_done _ _ c.requires.0 _ c.coordinates_of-at.ensures c.firsts_of-firsts.ensures c.requires.1 _ _ c.note_box.ensures
