use mathlib.Core.Path.{ap, ◌∙◌}
use lib.IntN.{ℤ}
use mathlib.Core.List.{List}
use Rattle.cell_meaning.specs.Evaluation.{offset}
use Rattle.cell_meaning.specs.Promises.Stands.{index_in}
use Rattle.cell_meaning.specs.Links.{table_of}
use Rattle.run_indices.proofs.ElementLaws.{element_ends, steps_more, steps_done}
use Rattle.run_indices.proofs.walk.elements.Goals as goal

pub loop-k-preserved : goal.loop-k-preserved
loop-k-preserved c =
    let a = c.args in
    let loops = a.loops.now in
    let i = index_in (table_of a.words.now a.rule.tokens a.rule.dims) c.loop-k.here in
    steps_more _ _ _ _ c.loop-k.invariant c.requires.0.sized.dims c.loop-k-test.true
    (element_ends loops.lows loops.highs loops.depth i c.element_word-low.result c.element_word-high.result
    (c.element_word-low.ensures ∙ ap (λ (vs : List ℤ). offset vs i) c.lows-lows.ensures) (c.element_word-high.ensures ∙ ap (λ (vs : List ℤ). offset vs i) c.highs-highs.ensures))
    c.place_at.ensures c.counted-now.ensures c.element_after-here.ensures

pub returns : goal.returns
returns c = steps_done _ _ _ _ c.loop-k.invariant c.loop-k-test.false
