use Rattle.run_places.specs.Promises.Vectors.{open_loops}
use Rattle.run_indices.proofs.ElementLaws.{index_found}
use Rattle.run_indices.proofs.walk.with_index.Goals as goal

pub returns : goal.returns
returns c = let a = c.args in index_found a.words.now a.rule a.sizes.now (open_loops a.loops.now) a.at a.s.now c.elements-count.result c.elements-count.ensures c.index_reach-index.ensures c.widen_by.ensures
