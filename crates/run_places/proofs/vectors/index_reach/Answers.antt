use Rattle.run_places.specs.Promises.Vectors.{open_loops}
use Rattle.run_places.proofs.VectorLaws.{reach_is}
use Rattle.run_places.proofs.vectors.index_reach.Goals as goal

pub returns : goal.returns
returns c = let a = c.args in reach_is a.words.now a.rule (open_loops a.loops.now) a.at a.bounds c.used-used.result c.used-used.ensures c.choices-count.ensures c.set_vectors.ensures
