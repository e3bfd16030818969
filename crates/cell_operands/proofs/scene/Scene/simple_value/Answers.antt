use native.Mathlib.Omega.{arith}
use borrow.Author.Rules.{rules}
use mathlib.Core.Path.{◌≡◌}
use Rattle.cell_operands.proofs.NotedLaws.{number_leaf, variable_leaf, own_leaf}
use Rattle.cell_operands.proofs.scene.Scene.simple_value.Goals as goal

pub returns-then-sort-eq-NUMBER : goal.returns-then-sort-eq-NUMBER
returns-then-sort-eq-NUMBER c =
    let pre = rw (← c.self.view_is) at c.requires in
    let args = c.args in
    rw (← c.self.view_is) (number_leaf c.self.invariant args.vars.now args.index.now _ pre.0 c.leaf_word-sort.ensures
    c.leaf_word-word.ensures c.if-sort-eq-NUMBER.true c.decode.ensures)

pub returns-then-sort-eq-VARIABLE : goal.returns-then-sort-eq-VARIABLE
returns-then-sort-eq-VARIABLE c =
    let pre = rw (← c.self.view_is) at c.requires in
    let args = c.args in
    rw (← c.self.view_is) (variable_leaf c.self.invariant args.vars.now args.index.now _ pre.0 c.leaf_word-sort.ensures
    c.leaf_word-word.ensures c.if-sort-eq-VARIABLE.true (search rules))

pub returns : goal.returns
returns c =
    let pre = rw (← c.self.view_is) at c.requires in
    let args = c.args in
    let leaf-word-ensures = c.leaf_word-sort.ensures in
    let h : c.leaf_word-sort.result ≡ 3 = omega
    (arith, leaf-word-ensures, pre.1, pre.2, c.if-sort-eq-NUMBER.false, c.if-sort-eq-VARIABLE.false) in
    rw (← c.self.view_is) (own_leaf c.self.invariant args.vars.now args.index.now _ pre.0 leaf-word-ensures c.leaf_word-word.ensures h
    c.entry_of.ensures)
