use Rattle.cell_leaves.proofs.WritingLaws.{steps_more}
use Rattle.cell_leaves.proofs.writing.write_offsets.Goals as goal

pub loop-k-preserved : goal.loop-k-preserved
loop-k-preserved c =
    let inv = c.loop-k.invariant in
    let going = c.loop-k-test.true in
    let is-moving-ensures = c.is_moving.ensures in
    let if1-left = c.if-is_moving.false in
    steps_more _ _ _ inv going c.requires.2 c.requires.5 is-moving-ensures if1-left c.word_at.ensures
    c.decode-offset.ensures c.wrapped.ensures c.element_after-here.ensures
