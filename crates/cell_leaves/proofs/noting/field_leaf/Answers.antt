use native.Mathlib.Omega.{arith}
use Rattle.cell_operands.proofs.TableLaws.{link_bounds}
use Rattle.cell_leaves.proofs.NotingLaws.{field_leaf, field_unnoted}
use Rattle.cell_leaves.proofs.noting.field_leaf.Goals as goal

pub overflow_cast-result : goal.overflow_cast-result
overflow_cast-result c =
    let pre = c.requires in
    let b = link_bounds _ _ _ c.link_at-next.ensures pre.2 in
    record { fits = omega (arith, pre.1) }

pub returns-then-word-fields : goal.returns-then-word-fields
returns-then-word-fields c =
    let link-at-ensures = c.link_at-next.ensures in
    field_leaf _ _ _ _ _ c.requires.3 c.word_at-word.ensures c.if-word-fields.true link-at-ensures
    (link_bounds _ _ _ link-at-ensures c.requires.2)

pub returns : goal.returns
returns c = field_unnoted _ _ _ _ _ c.requires.3
