use mathlib.Core.Path.{refl}
use Rattle.run_steps.proofs.StepwiseLaws.{making_whole}
use Rattle.run_steps.proofs.steps.run_steps.Goals as goal

pub run_by-requires : goal.run_by-requires
run_by-requires c = (c.requires.0, c.requires.1, making_whole refl)

pub returns : goal.returns
returns c = record { ran = c.run_by.ensures.ran; counts = c.run_by.ensures.counts }
