use mathlib.Core.Path.{ap, ◌∙◌}
use native.Mathlib.Omega.{arith}
use Rattle.cell_meaning.specs.Evaluation.{offsets}
use Rattle.cell_meaning.specs.Promises.Stands.{indices_in}
use Rattle.cell_meaning.specs.Links.{table_of}
use Rattle.run_places.proofs.LoopLaws.{values_taken}
use Rattle.run_places.proofs.VectorLaws.{filling_more}
use Rattle.run_places.proofs.vectors.set_vectors.Goals as goal

pub loop-e-preserved : goal.loop-e-preserved
loop-e-preserved c =
    let a = c.args in
    filling_more _ _ c.loop-e.list c.loop-e.e c.vector.result (omega (arith, c.if-count-gt-MOST_PLACES.false, c.loop-e-test.true)) c.loop-e.invariant
    (c.vector.ensures ∙ ap (λ vs. offsets a.dims vs (indices_in (table_of a.words.now a.n a.dims) a.dims a.at)) (values_taken a.loops.now.depth c.chosen-given.result (omega (arith, a.loops.now.deep)) ∙ c.chosen-given.ensures))
