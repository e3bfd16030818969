use Rattle.cell_leaves.proofs.WritingLaws.{written_near}
use Rattle.cell_leaves.proofs.writing.write_leaf.Goals as goal

pub returns-then-write_offsets : goal.returns-then-write_offsets
returns-then-write_offsets c =
    let leaf-at-ensures = c.leaf_at-leaf.ensures in
    let write-offsets-ensures = c.write_offsets.ensures in
    written_near _ _ _ _ _ _ c.write_words.ensures write-offsets-ensures leaf-at-ensures
    c.if-write_offsets.true
