use mathlib.Core.Path.{refl, ap, sym, ◌∙◌}
use Prim.Native.Nat.{◌≤◌}
use native.Mathlib.Omega.{arith}
use Rattle.token.specs.Kind.{level_of}
use Rattle.cell_operands.specs.Promises.Working.{short}
use Rattle.cell_expressions.proofs.ExpressionLaws.{quick_none, quick_tighter, quick_fault, quick_end, quick_again}
use Rattle.cell_expressions.proofs.expression.quick.Goals as goal

pub returns-in_err-right : goal.returns-in_err-right
returns-in_err-right c =
    let none = ap short c.in_err-right.was in
    rw (c.from_residual.ensures, ← none) (quick_none _ _ _ _ _ _ _ c.requires.0 c.loop-right.invariant c.short_operand.ensures none)

pub returns-then-own-tight : goal.returns-then-own-tight
returns-then-own-tight c =
    quick_tighter _ _ _ _ _ _ _ c.requires.0 c.loop-right.invariant c.short_operand.ensures (ap short c.in_ok-right.was) refl c.level-tight.ensures.is c.if-own-tight.true

pub returns-in_default : goal.returns-in_default
returns-in_default c =
    quick_fault _ _ _ _ _ _ _ c.requires.0 c.loop-right.invariant c.short_operand.ensures (ap short c.in_ok-right.was) refl c.level-tight.ensures.is
    c.if-own-tight.false c.joined.ensures c.in_default.is

pub returns-then-tight-level : goal.returns-then-tight-level
returns-then-tight-level c =
    quick_end _ _ _ _ _ _ _ c.requires.0 c.loop-right.invariant c.short_operand.ensures (ap short c.in_ok-right.was) refl c.level-tight.ensures.is
    c.if-own-tight.false c.joined.ensures c.in-Ok.is c.if-tight-level.true

pub loop-right-preserved : goal.loop-right-preserved
loop-right-preserved c =
    let op = c.operator-op.ensures in
    let some : 1 ≤ c.level-tight.result = omega (arith, c.requires.0, c.if-tight-level.false) in
    quick_again _ _ _ _ _ _ _ c.requires.0 c.loop-right.invariant c.short_operand.ensures (ap short c.in_ok-right.was) op
    (c.level-tight.ensures.is ∙ ap level_of (sym op)) c.if-own-tight.false c.joined.ensures c.in-Ok.is c.if-tight-level.false
    (c.level-tight.ensures.within some)
