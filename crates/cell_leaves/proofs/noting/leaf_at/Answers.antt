use native.Mathlib.Omega.{arith}
use mathlib.Core.Path.{refl, sym, ◌∙◌}
use mathlib.Core.Logic.{inl, inr}
use Rattle.cell_operands.proofs.TableLaws.{token}
use Rattle.cell_leaves.proofs.NotingLaws.{literal_leaf}
use Rattle.cell_leaves.proofs.noting.leaf_at.Goals as goal

pub overflow_cast-result : goal.overflow_cast-result
overflow_cast-result c = let l = token _ _ _ c.word_at-kind.ensures (omega arith) in record { fits = omega (arith, c.requires.1) }

pub overflow_add-result : goal.overflow_add-result
overflow_add-result c = let l = token _ _ _ c.word_at-kind.ensures (omega arith) in record { fits = omega (arith, c.requires.1) }

pub returns-then-kind-eq-LITERAL : goal.returns-then-kind-eq-LITERAL
returns-then-kind-eq-LITERAL c =
    let word-at-ensures = c.word_at-kind.ensures in
    literal_leaf _ _ _ _ _ word-at-ensures c.if-kind-eq-LITERAL.true c.word_at.ensures (token _ _ _ word-at-ensures (omega arith))

pub name_leaf-requires : goal.name_leaf-requires
name_leaf-requires c =
    let e = c.word_at-kind.ensures in
    let p = c.requires in
    (p.0, p.1, token _ _ _ e (omega arith), sym e ∙ c.if-kind-eq-NAME.true)

pub field_leaf-requires : goal.field_leaf-requires
field_leaf-requires c =
    let pre = c.requires in
    let e = c.word_at-kind.ensures in
    let p = pre in
    (p.0, p.1, token _ _ _ e (omega arith), inl (sym e ∙ c.if-kind-eq-CELL.true, refl))

pub field_leaf-requires-then-kind-eq-BRACKET : goal.field_leaf-requires-then-kind-eq-BRACKET
field_leaf-requires-then-kind-eq-BRACKET c =
    let pre = c.requires in
    let e = c.word_at-kind.ensures in
    let p = pre in
    (p.0, p.1, token _ _ _ e (omega arith), inr (sym e ∙ c.if-kind-eq-BRACKET.true, refl))
