use Rattle.run_place_marks.proofs.PlacingLaws.{Walking}
use Rattle.run_place_marks.proofs.cell_at.Given as goal

abbrev pub invariant-loop-k : goal.invariant-loop-k
invariant-loop-k l = Walking l.sizes l.at l.steps l.from l.number l.k
