use native.Mathlib.Omega.{arith}
use Rattle.run_marking.proofs.OpenLaws.{led_placed, list_done}
use Rattle.run_marking.proofs.opening.open_list.Goals as goal

pub note_steps-requires : goal.note_steps-requires
note_steps-requires c = (λ k l. led_placed _ c.args.bounds _ c.requires.0 c.requires.4 c.coordinates_of.ensures c.requires.1 c.requires.2 k l, omega (arith, c.requires.2), c.requires.3, omega (arith, c.requires.3, c.requires.0.cells))

pub returns : goal.returns
returns c = list_done _ _ _ _ _ _ c.coordinates_of.ensures c.note_steps.ensures
