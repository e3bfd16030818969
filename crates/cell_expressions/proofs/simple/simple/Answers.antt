use native.Mathlib.Omega.{arith}
use Rattle.cell_expressions.proofs.SimpleLaws.{first_simple, one_operand, between, second_simple, two_operands}
use Rattle.cell_expressions.proofs.simple.simple.Goals as goal

pub simple_value-a-requires : goal.simple_value-a-requires
simple_value-a-requires c =
    let pre = rw (← c.scene.view_is) at c.requires in
    let ready = c.scene.invariant in
    let s = first_simple ready pre c.leaf_word-shape.ensures c.if-shape-eq0.false c.if-shape-gt2.false in
    rw (← c.scene.view_is) (pre, s.0, s.1)

pub returns-then-shape-eq1 : goal.returns-then-shape-eq1
returns-then-shape-eq1 c =
    let pre = rw (← c.scene.view_is) at c.requires in
    let ready = c.scene.invariant in
    let leaf-word-ensures = c.leaf_word-shape.ensures in
    rw (← c.scene.view_is) (one_operand ready pre leaf-word-ensures c.if-shape-eq0.false c.if-shape-gt2.false
    c.leaf_word-next.ensures _ _ c.if-shape-eq1.true (rw (← c.scene.view_is) at c.simple_value-a.ensures))

pub simple_value-b-requires : goal.simple_value-b-requires
simple_value-b-requires c =
    let pre = rw (← c.scene.view_is) at c.requires in
    let ready = c.scene.invariant in
    let leaf-word-ensures = c.leaf_word-shape.ensures in
    let if1-left = c.if-shape-eq0.false in
    let if2-left = c.if-shape-gt2.false in
    let leaf-word2-ensures = c.leaf_word-next.ensures in
    let s = second_simple ready pre leaf-word-ensures if1-left if2-left leaf-word2-ensures c.if-shape-eq1.false in
    rw (← c.scene.view_is) (omega (arith, between ready pre leaf-word-ensures if1-left if2-left leaf-word2-ensures c.if-shape-eq1.false), s.0, s.1)

pub returns : goal.returns
returns c =
    let pre = rw (← c.scene.view_is) at c.requires in
    let ready = c.scene.invariant in
    let leaf-word-ensures = c.leaf_word-shape.ensures in
    let if1-left = c.if-shape-eq0.false in
    let if2-left = c.if-shape-gt2.false in
    let leaf-word2-ensures = c.leaf_word-next.ensures in
    rw (← c.scene.view_is) (two_operands ready pre leaf-word-ensures if1-left if2-left leaf-word2-ensures c.if-shape-eq1.false _ _
    (rw (← c.scene.view_is) at c.simple_value-a.ensures) (rw (← c.scene.view_is) at c.simple_value-b.ensures) c.leaf_word-2.ensures c.leaf_word.ensures
    c.compare.ensures)
