use Rattle.run_places.proofs.LoopLaws.{using_used, using_unused}
use Rattle.run_places.proofs.vectors.used.Goals as goal
use Rattle.run_places.proofs.vectors.used.Goals.{then-not-uses, else-not-uses}

pub loop-d-preserved : goal.loop-d-preserved
loop-d-preserved c =
    elim c.if-not-uses.branch [
      | then-not-uses w ↦ using_unused c.args.loops.now _ c.loop-d.invariant c.loop-d-test.true c.uses.ensures w.if-not-uses.true w.lows-is w.highs-is
      | else-not-uses w ↦ using_used c.args.loops.now _ c.loop-d.invariant c.loop-d-test.true c.uses.ensures w.if-not-uses.false w.lows-is w.highs-is
    ]
