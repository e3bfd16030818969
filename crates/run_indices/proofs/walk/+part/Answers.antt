use lib.Dec.{eqb}
use Rattle.cell_meaning.specs.Links.{word_in}
use Prim.Native.Nat.{◌<◌}
use native.Mathlib.Omega.{arith}
use Rattle.run_places.specs.Promises.Vectors.{open_loops}
use Rattle.run_places.proofs.LoopLaws.{open_length}
use Rattle.run_indices.proofs.WalkLaws.{less_left, opens_deep, loops_opened, going_plain, going_loop, going_done}
use Rattle.cell_operands.proofs.TableLaws.{link_bounds}
use Rattle.run_indices.proofs.walk.+part.Goals as goal
use Rattle.run_indices.proofs.walk.+part.Goals.{then-opens, else-opens}

pub opened-inner-requires : goal.opened-inner-requires
opened-inner-requires t c = opens_deep (eqb (word_in c.args.words.now c.args.rule.tokens 0 c.loop-at.at) 12) c.args.loops.now.depth c.opens.ensures c.if-opens.true

pub part-requires : goal.part-requires
part-requires t c =
    let l = c.loop-at in
    let a = c.args in
    let inside : l.at < a.rule.tokens = omega (arith, c.requires.1, c.loop-at-test.true) in
    let inner = link_bounds _ _ _ c.link_at-first.ensures inside in
    let past = link_bounds _ _ _ c.link_at-past.ensures inside in
    (omega (arith, c.decreases, inner.0, inner.1, l.invariant.onward), (c.requires.0, past.1))

pub loop-at-smaller : goal.loop-at-smaller
loop-at-smaller t c =
    let a = c.args in
    less_left a.words.now a.rule _ _ c.requires.1 c.loop-at-test.true c.behind-at.ensures

pub loop-at-preserved : goal.loop-at-preserved
loop-at-preserved t c =
    let l = c.loop-at in
    let a = c.args in
    let less = c.loop-at-test.true in
    let opens = c.opens.ensures in
    let loops = open_loops a.loops.now in
    elim c.if-opens.branch [
      | then-opens w ↦
          going_loop a.words.now a.rule a.sizes.now loops a.from a.to a.s.now l.invariant c.requires.1 less c.behind-at.ensures
          w.s-is (open_length a.loops.now) opens w.if-opens.true (loops_opened a.words.now a.rule loops l.at w.word_at.ensures w.word_at-then-opens.ensures w.opened-inner.ensures) w.link_at-first.ensures
          w.link_at-past.ensures w.part.ensures
      | else-opens w ↦
          going_plain a.words.now a.rule a.sizes.now loops a.from a.to a.s.now l.invariant c.requires.1 less c.behind-at.ensures
          w.s-is (open_length a.loops.now) opens w.if-opens.false w.index_at.ensures
    ]

pub returns : goal.returns
returns t c = going_done _ _ _ _ _ _ _ c.loop-at.invariant c.loop-at-test.false
