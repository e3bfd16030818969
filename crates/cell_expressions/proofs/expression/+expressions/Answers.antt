use native.Mathlib.Omega.{arith}
use Rattle.cell_operands.proofs.LeafLaws.{passed}
use Rattle.cell_operands.proofs.TableLaws.{token}
use Rattle.cell_operands.proofs.OperatorLaws.{level_some, from_within}
use Rattle.token.proofs.Levels.{level_few}
use Rattle.cell_expressions.proofs.ExpressionLaws.{bracket_fault, bracket_closed, bracket_open, primary_paren, primary_bare, primary_element_fault, primary_element, operand_bare, operand_fault, operand_unary, first_fault, first_found, chain_end, right_fault, operator_fault, chain_more}
use Rattle.cell_expressions.proofs.expression.+expressions.Goals as goal

pub bracket-returns-in_err-inner : goal.bracket-returns-in_err-inner
bracket-returns-in_err-inner t c =
    let y = c.in_err-inner.was in
    rw (passed c.from_residual.ensures.1 y, ← y) (bracket_fault _ _ _ _ _ _ _ c.expression.ensures y)

pub bracket-returns-then-kind-close : goal.bracket-returns-then-kind-close
bracket-returns-then-kind-close t c =
    let expression-ensures = c.expression.ensures in
    let word-at-ensures = c.kind.ensures.is in
    bracket_closed _ _ _ _ _ _ _ expression-ensures c.in_ok-inner.was word-at-ensures c.if-kind-close.true
    (token _ _ _ word-at-ensures (omega arith))

pub bracket-returns : goal.bracket-returns
bracket-returns t c =
    let expression-ensures = c.expression.ensures in
    bracket_open _ _ _ _ _ _ _ expression-ensures c.in_ok-inner.was c.kind.ensures.is c.if-kind-close.false

pub chain-returns-in_err-left : goal.chain-returns-in_err-left
chain-returns-in_err-left t c =
    let y = c.in_err-left.was in
    rw (passed c.from_residual.ensures.1 y, ← y) (first_fault _ _ _ _ _ _ _ c.operand.ensures y)

pub chain-loop-left-init : goal.chain-loop-left-init
chain-loop-left-init t c = first_found _ _ _ _ _ _ _ c.operand.ensures c.in_ok-left.was

pub chain-returns-then-own-level : goal.chain-returns-then-own-level
chain-returns-then-own-level t c = chain_end _ _ _ _ _ _ _ c.loop-left.invariant c.kind-op.ensures.is c.level_of-own.ensures c.if-own-level.true

pub chain-overflow_add-own : goal.chain-overflow_add-own
chain-overflow_add-own t c = omega (arith, level_few c.kind-op.result)

pub chain-expression-requires : goal.chain-expression-requires
chain-expression-requires t c =
    let l = token _ _ _ c.kind-op.ensures.is (level_some _ c.level_of-own.ensures c.requires.0 c.if-own-level.false) in
    (omega (arith, c.decreases, c.loop-left.invariant.past), (omega arith, omega arith))

pub chain-returns-in_err-right : goal.chain-returns-in_err-right
chain-returns-in_err-right t c =
    let y = c.in_err-right.was in
    rw (passed c.from_residual-in_err-right.ensures.1 y, ← y)
    (right_fault _ _ _ _ _ _ _ c.loop-left.invariant c.kind-op.ensures.is c.level_of-own.ensures c.if-own-level.false c.expression.ensures y)

pub chain-returns-in_err-left-2 : goal.chain-returns-in_err-left-2
chain-returns-in_err-left-2 t c =
    let y = c.in_err-left-2.was in
    rw (passed c.from_residual-in_err-left-2.ensures.1 y, ← y)
    (operator_fault _ _ _ _ _ _ _ c.loop-left.invariant c.kind-op.ensures.is c.level_of-own.ensures c.if-own-level.false c.expression.ensures c.in_ok-right.was c.operate.ensures y)

pub chain-loop-left-preserved : goal.chain-loop-left-preserved
chain-loop-left-preserved t c =
    chain_more _ _ _ _ _ _ _ c.loop-left.invariant c.kind-op.ensures.is c.level_of-own.ensures c.if-own-level.false
    c.expression.ensures c.in_ok-right.was c.operate.ensures c.in_ok-left-2.was

pub operand-primary-requires : goal.operand-primary-requires
operand-primary-requires t c =
    let l = from_within _ _ c.args.scene.now.site.tokens _ c.primary_from.ensures c.requires (token _ _ _ c.kind-op.ensures.is) in
    (omega (arith, c.decreases), omega arith)

pub operand-returns-in_err-inner : goal.operand-returns-in_err-inner
operand-returns-in_err-inner t c =
    let y = c.in_err-inner.was in
    rw (passed c.from_residual.ensures.1 y, ← y) (operand_fault _ _ _ _ _ _ c.kind-op.ensures.is c.primary_from.ensures c.primary.ensures y)

pub operand-returns-then-is_unary : goal.operand-returns-then-is_unary
operand-returns-then-is_unary t c =
    let word-at-ensures = c.kind-op.ensures.is in
    let primary-from-ensures = c.primary_from.ensures in
    let primary-ensures = c.primary.ensures in
    operand_unary _ _ _ _ _ _ word-at-ensures primary-from-ensures primary-ensures c.is_unary.ensures c.if-is_unary.true
    c.in_ok-inner.was c.operate_unary.ensures

pub operand-returns : goal.operand-returns
operand-returns t c =
    let word-at-ensures = c.kind-op.ensures.is in
    let primary-from-ensures = c.primary_from.ensures in
    let primary-ensures = c.primary.ensures in
    operand_bare _ _ _ _ _ _ word-at-ensures primary-from-ensures primary-ensures c.is_unary.ensures c.if-is_unary.false
    c.in_ok-inner.was

pub primary-bracket-requires : goal.primary-bracket-requires
primary-bracket-requires t c =
    let l = token _ _ _ c.kind-kind.ensures.is (omega arith) in
    let few = c.kind-kind.ensures.few in
    (omega (arith, c.decreases), (l, omega arith, omega arith))

pub primary-returns-then-kind-eq-PAREN : goal.primary-returns-then-kind-eq-PAREN
primary-returns-then-kind-eq-PAREN t c = primary_paren _ _ _ _ _ _ c.kind-kind.ensures.is c.if-kind-eq-PAREN.true c.bracket.ensures

pub primary-bracket-requires-then-kind-eq-BRACKET : goal.primary-bracket-requires-then-kind-eq-BRACKET
primary-bracket-requires-then-kind-eq-BRACKET t c =
    let l = token _ _ _ c.kind.ensures.is (omega arith) in
    let few = c.kind.ensures.few in
    (omega (arith, c.decreases), (l, omega arith, omega arith))

pub primary-returns-in_err-inner : goal.primary-returns-in_err-inner
primary-returns-in_err-inner t c =
    let y = c.in_err-inner.was in
    rw (passed c.from_residual.ensures.1 y, ← y)
    (primary_element_fault _ _ _ _ _ _ c.kind-kind.ensures.is c.if-kind-eq-NAME.true c.word.ensures c.if-word-eq2.true c.bracket-then-kind-eq-BRACKET.ensures y)

pub primary-returns-then-kind-eq-BRACKET : goal.primary-returns-then-kind-eq-BRACKET
primary-returns-then-kind-eq-BRACKET t c =
    let word-at-ensures = c.kind-kind.ensures.is in
    let if2-taken = c.if-kind-eq-NAME.true in
    let word-at2-ensures = c.word.ensures in
    let if3-taken = c.if-word-eq2.true in
    primary_element _ _ _ _ _ _ word-at-ensures if2-taken word-at2-ensures if3-taken c.bracket-then-kind-eq-BRACKET.ensures
    c.in_ok-inner.was c.element.ensures

pub primary-returns-then-word-eq2 : goal.primary-returns-then-word-eq2
primary-returns-then-word-eq2 t c =
    let word-at-ensures = c.kind-kind.ensures.is in
    primary_bare _ _ _ _ _ _ word-at-ensures c.if-kind-eq-NAME.true c.word.ensures
    c.if-word-eq2.true c.kind.ensures.is c.if-kind-eq-BRACKET.false
