use Rattle.run_places.proofs.ChoiceLaws.{Choosing}
use Rattle.run_places.proofs.vectors.chosen.Given as goal

abbrev pub invariant-loop-d : goal.invariant-loop-d
invariant-loop-d l = Choosing l.loops.lows l.loops.highs l.loops.depth l.e l.r l.rest l.d
