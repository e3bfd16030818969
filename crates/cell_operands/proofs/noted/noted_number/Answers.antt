use native.Mathlib.Omega.{arith}
use Rattle.automaton.proofs.ShapeLaws.{inside_at}
use Rattle.cell_operands.proofs.NotedLaws.{offset_small, walk_small, walk_more}
use Rattle.cell_operands.proofs.noted.noted_number.Goals as goal

pub moved-to-requires : goal.moved-to-requires
moved-to-requires c =
    (inside_at c.args.sizes.now c.args.point.now c.requires.3 _ c.loop-k-test.true, offset_small _ _ _ _ _ _ c.requires.3 c.loop-k.invariant.0 c.loop-k-test.true c.leaf_word.ensures, omega (arith, c.type_inv.sizes c.loop-k.k))

pub overflow_mul-number : goal.overflow_mul-number
overflow_mul-number c =
    record {
      fits = omega (arith, c.requires.2, walk_small _ _ _ _ _ _ c.requires.3 c.loop-k.invariant.0 c.loop-k-test.true c.leaf_word.ensures c.moved-to.ensures);
    }

pub overflow_add-number : goal.overflow_add-number
overflow_add-number c =
    record {
      fits = omega (arith, c.requires.2, walk_small _ _ _ _ _ _ c.requires.3 c.loop-k.invariant.0 c.loop-k-test.true c.leaf_word.ensures c.moved-to.ensures);
    }

pub loop-k-preserved : goal.loop-k-preserved
loop-k-preserved c =
    (walk_more _ _ _ _ _ _ c.requires.3 c.loop-k.invariant.0 c.loop-k-test.true c.leaf_word.ensures c.moved-to.ensures, c.loop-k.invariant.1)
