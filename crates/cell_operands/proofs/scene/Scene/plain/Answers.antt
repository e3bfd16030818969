use mathlib.Core.Path.{sym, ap, ◌∙◌}
use native.Mathlib.Omega.{arith}
use lib.ListN.{take}
use Prim.Native.Nat.{ℕ}
use Rattle.value.specs.Worked.{value}
use Rattle.automaton.specs.Grid.{cell_of}
use Rattle.cell_meaning.specs.Evaluation.{entry}
use Rattle.cell_operands.proofs.PrimaryLaws.{own_is, plain_literal, plain_neighbour, plain_cell, plain_time, plain_other}
use Rattle.cell_operands.proofs.TableLaws.{token, link_bounds}
use Rattle.cell_operands.proofs.scene.Scene.plain.Goals as goal

pub returns-then-kind-eq-LITERAL : goal.returns-then-kind-eq-LITERAL
returns-then-kind-eq-LITERAL c =
    let word-at-ensures = c.word_at-kind.ensures in
    rw (← c.self.view_is) (plain_literal _ _ _ _ _ _ _ word-at-ensures (token _ _ _ word-at-ensures (omega arith)) c.if-kind-eq-LITERAL.true
    c.word_at.ensures c.decode-value.ensures)

pub returns-then-kind-eq-BRACKET : goal.returns-then-kind-eq-BRACKET
returns-then-kind-eq-BRACKET c =
    let word-at-ensures = c.word_at-kind.ensures in
    let b = link_bounds _ _ _ c.link_at-next.ensures (token _ _ _ word-at-ensures (omega arith)) in
    rw (← c.self.view_is) (plain_neighbour _ _ _ _ _ _ _ word-at-ensures b.0 b.1 c.link_at-next.ensures c.if-kind-eq-BRACKET.true
    (rw (← c.self.view_is) at c.neighbour_field-value.ensures))

pub returns-then-kind-eq-CELL : goal.returns-then-kind-eq-CELL
returns-then-kind-eq-CELL c =
    let s = c.self.inside in
    let word-at-ensures = c.word_at-kind.ensures in
    let b = link_bounds _ _ _ c.link_at-next-then-kind-eq-CELL.ensures (token _ _ _ word-at-ensures (omega arith)) in
    rw (← c.self.view_is) (plain_cell _ _ _ _ _ _ _ word-at-ensures b.0 b.1 c.link_at-next-then-kind-eq-CELL.ensures c.if-kind-eq-CELL.true
    c.word_at-field.ensures
    (c.field_of-value.ensures ∙ ap (λ (x : ℕ). value (entry (cell_of s.site.fields s.grid.now x) c.word_at-field.result)) (sym (own_is c.self.invariant (take s.depth c.args.index.now)))))

pub returns-then-kind-eq-TIME : goal.returns-then-kind-eq-TIME
returns-then-kind-eq-TIME c =
    let word-at-ensures = c.word_at-kind.ensures in
    rw (← c.self.view_is) (plain_time _ _ _ _ _ _ _ word-at-ensures (token _ _ _ word-at-ensures (omega arith)) c.if-kind-eq-TIME.true c.self.invariant.time c.decode-value-then-kind-eq-TIME.ensures)

pub returns : goal.returns
returns c = rw (← c.self.view_is) (plain_other _ _ _ _ _ _ _ c.word_at-kind.ensures c.if-kind-eq-LITERAL.false c.if-kind-eq-BRACKET.false c.if-kind-eq-CELL.false c.if-kind-eq-TIME.false)
