use native.Mathlib.Omega.{arith}
use Rattle.run_places.proofs.VectorLaws.{putting_more, putting_done, vector_length, reading_word, reading_more}
use Rattle.run_places.proofs.vectors.vector.Goals as goal

pub loop-k-preserved : goal.loop-k-preserved
loop-k-preserved c =
    let l = c.loop-k in (
      putting_more _ l.place l.k c.element_word.result l.invariant.0 (omega (arith, c.requires.2, c.loop-k-test.true)) (reading_word _ _ _ _ l.invariant.1 c.loop-k-test.true c.element_word.result c.element_word.ensures),
      reading_more _ _ _ _ l.invariant.1 c.loop-k-test.true c.element_after-here.ensures,
    )

pub returns : goal.returns
returns c = putting_done _ c.args.dims c.loop-k.place c.loop-k.k (vector_length _ _ _ _) c.loop-k.invariant.0 c.loop-k-test.false
