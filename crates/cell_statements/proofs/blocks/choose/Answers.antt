use native.Mathlib.Omega.{arith}
use mathlib.Core.Path.{sym}
use Rattle.cell_operands.proofs.TableLaws.{token, link_bounds}
use Rattle.cell_statements.proofs.StatementLaws.{choice_fault, choice_then, choice_wrong, choice_else, choice_end, arms_more}
use Rattle.cell_statements.proofs.blocks.choose.Goals as goal

pub overflow_add-arm : goal.overflow_add-arm
overflow_add-arm c = omega (arith, c.tokens-n.ensures.is, c.tokens-n.ensures.few, c.loop-condition.invariant.within)

pub returns-then-condition-n : goal.returns-then-condition-n
returns-then-condition-n c =
    let inv = c.loop-condition.invariant in
    let settled-ensures = c.evaluated.ensures in
    choice_then _ _ _ _ _ _ _ inv settled-ensures c.in-Ok.is c.is_true.ensures
    c.if-is_true.true (rw c.tokens-n.ensures.is at c.if-condition-n.true)

pub returns-then-is_true : goal.returns-then-is_true
returns-then-is_true c =
    let inv = c.loop-condition.invariant in
    let settled-ensures = c.evaluated.ensures in
    choice_wrong _ _ _ _ _ _ _ inv settled-ensures c.in-Ok.is c.is_true.ensures
    (λ i e. token _ _ i (sym e) (omega arith)) (rw c.tokens-n.ensures.is at c.if-condition-n.false)

pub overflow_add-result-then-kind-eq-ELSE_WORD : goal.overflow_add-result-then-kind-eq-ELSE_WORD
overflow_add-result-then-kind-eq-ELSE_WORD c =
    omega (arith, token _ _ _ c.kind-kind.ensures.is (omega arith), c.kind-kind.ensures.few)

pub returns-then-kind-eq-ELSE_WORD : goal.returns-then-kind-eq-ELSE_WORD
returns-then-kind-eq-ELSE_WORD c =
    let inv = c.loop-condition.invariant in
    let settled-ensures = c.evaluated.ensures in
    let link-at-ensures = c.inner-other.ensures in
    let word-at-ensures = c.kind-kind.ensures.is in
    choice_else _ _ _ _ _ _ _ inv settled-ensures c.in-Ok.is c.is_true.ensures
    c.if-is_true.false link-at-ensures word-at-ensures c.if-kind-eq-ELSE_WORD.true (link_bounds _ _ _ link-at-ensures inv.within).0
    (token _ _ _ word-at-ensures (omega arith))

pub returns-then-kind-ne-ELSIF_WORD : goal.returns-then-kind-ne-ELSIF_WORD
returns-then-kind-ne-ELSIF_WORD c =
    let inv = c.loop-condition.invariant in
    let settled-ensures = c.evaluated.ensures in
    let is-true-ensures = c.is_true.ensures in
    choice_end _ _ _ _ _ _ _ inv settled-ensures c.in-Ok.is is-true-ensures c.if-is_true.false
    c.inner-other.ensures c.kind-kind.ensures.is c.if-kind-eq-ELSE_WORD.false c.if-kind-ne-ELSIF_WORD.true

pub loop-condition-smaller : goal.loop-condition-smaller
loop-condition-smaller c =
    let inv = c.loop-condition.invariant in
    omega (arith, link_bounds _ _ _ c.inner-other.ensures inv.within, inv.within)

pub loop-condition-preserved : goal.loop-condition-preserved
loop-condition-preserved c =
    let inv = c.loop-condition.invariant in
    let settled-ensures = c.evaluated.ensures in
    let is-true-ensures = c.is_true.ensures in
    let link-at-ensures = c.inner-other.ensures in
    let word-at-ensures = c.kind-kind.ensures.is in
    arms_more _ _ _ _ _ _ _ inv settled-ensures c.in-Ok.is is-true-ensures c.if-is_true.false link-at-ensures
    word-at-ensures c.if-kind-ne-ELSIF_WORD.false (link_bounds _ _ _ link-at-ensures inv.within).0 (token _ _ _ word-at-ensures (omega arith))

pub returns-in-Err : goal.returns-in-Err
returns-in-Err c = choice_fault _ _ _ _ _ _ _ c.loop-condition.invariant c.evaluated.ensures c.in-Err.is
