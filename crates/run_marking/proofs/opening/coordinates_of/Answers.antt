use mathlib.Core.Path.{refl}
use Rattle.run_place_marks.proofs.BackLaws.{coordinates_in}
use Rattle.run_marking.proofs.opening.coordinates_of.Goals as goal

pub returns : goal.returns
returns c = coordinates_in _ _ _ _ refl c.requires.0 (c.set_point.ensures c.requires.3)
