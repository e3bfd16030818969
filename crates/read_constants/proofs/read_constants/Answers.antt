use Rattle.read_state.proofs.Going.{passed}
use Rattle.grammar.specs.Reader.{unit}
use Rattle.grammar.specs.Constants.{read_constants, constants_turn}
use Rattle.read_state.proofs.Steps.{on, off, so, other, token, returned}
use Rattle.read_state.proofs.Turns.{turn_first, turn_again, turn_done, turn_refused}
use Rattle.read_state.proofs.Going.{nowhere, went, goes_on}
use borrow.Author.Tests.{eq-eqb, ne_eqb}
use native.Mathlib.Omega.{arith}
use mathlib.Core.Path.{◌∙◌}
use Rattle.read_constants.proofs.read_constants.Goals as goal

pub loop-scan-init : goal.loop-scan-init
unfolding read_constants
loop-scan-init c =
    let pre = c.requires in
    (turn_first unit tt, pre.table, pre.list, pre.here, pre.few, omega arith)

pub token_at-t-requires : goal.token_at-t-requires
token_at-t-requires c =
    let pre = c.requires in
    let loop = c.loop-scan in
    (pre.tokens, loop.invariant.1)

pub returns-then-t-ne-CONST_WORD : goal.returns-then-t-ne-CONST_WORD
unfolding constants_turn
returns-then-t-ne-CONST_WORD c =
    let pre = c.requires in
    let loop = c.loop-scan in
    let token_at = c.token_at-t in
    let if1 = c.if-t-ne-CONST_WORD in
    record {
      gives =
          turn_done loop.invariant.0 (omega (arith, loop.invariant.3, pre.tokens))
          (λ _ _. token _ token_at.ensures
          (other _ _ (ne_eqb _ _ if1.true)
          (returned _ tt)));
      onward = goes_on loop.invariant.5 loop.invariant.3 loop.invariant.4;
    }

pub read_declaration-requires : goal.read_declaration-requires
read_declaration-requires c =
    let pre = c.requires in
    let loop = c.loop-scan in
    let token_at = c.token_at-t in
    let if1 = c.if-t-ne-CONST_WORD in (
      record { tokens = pre.tokens; table = loop.invariant.1; list = loop.invariant.2; here = loop.invariant.3; few = loop.invariant.4 },
      omega (arith, token_at.ensures.inside, if1.false),
    )

pub returns-in_err-a : goal.returns-in_err-a
unfolding constants_turn
returns-in_err-a c =
    let pre = c.requires in
    let loop = c.loop-scan in
    let token_at = c.token_at-t in
    let if1 = c.if-t-ne-CONST_WORD in
    let read_declaration = c.read_declaration in
    let y = c.in_err-a.was in
    rw (passed c.from_residual.ensures.1 y)
    record {
      gives =
          turn_refused loop.invariant.0 (omega (arith, loop.invariant.3, pre.tokens))
          (λ _ _. token _ token_at.ensures
          (so _ _ (eq-eqb _ _ if1.false)
          (off _ read_declaration.ensures.gives y)))
          y;
      onward = nowhere y;
    }

pub loop-scan-smaller : goal.loop-scan-smaller
loop-scan-smaller c =
    let pre = c.requires in
    let loop = c.loop-scan in
    let read_declaration = c.read_declaration in
    omega (arith, (went read_declaration.ensures.onward c.in_ok-a.was).past, loop.invariant.3, pre.tokens)

pub loop-scan-preserved : goal.loop-scan-preserved
unfolding constants_turn
loop-scan-preserved c =
    let pre = c.requires in
    let loop = c.loop-scan in
    let token_at = c.token_at-t in
    let if1 = c.if-t-ne-CONST_WORD in
    let read_declaration = c.read_declaration in
    let w = went read_declaration.ensures.onward c.in_ok-a.was in (
      turn_again loop.invariant.0 (omega (arith, loop.invariant.3, pre.tokens))
          (λ _ _. token _ token_at.ensures
          (so _ _ (eq-eqb _ _ if1.false)
          (on _ read_declaration.ensures.gives c.in_ok-a.was
          (λ _ _. returned _ tt))))
          (omega (arith, w.past)),
      read_declaration.auto.words ∙ loop.invariant.1,
      read_declaration.auto.names ∙ loop.invariant.2,
      w.within,
      w.few,
      omega (arith, w.past, loop.invariant.5),
    )
